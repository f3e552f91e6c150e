use mathlib.Core.Path.{◌≡◌, ◌∙◌}
use native.Mathlib.Omega.{arith}
use Rattle.rules.specs.Commit.{reached}
use Rattle.group.specs.Points.{points}
use Rattle.group.proofs.Commit.{reached_told, count_none, count_more, count_same}
use Rattle.group.proofs.Reached.by_how_many.Goals as goal
use Rattle.group.proofs.Reached.by_how_many.Goals.{then-by, else-by}

pub loop-i-init : goal.loop-i-init
loop-i-init c = record { few = omega arith; counted = count_none _ }

pub loop-i-preserved : goal.loop-i-preserved
loop-i-preserved c =
    let l = c.loop-i in
    let s = c.args.self.now in
    let h : reached s.own s.len (points s.n s.heard.now) c.args.c l.i ≡ c.by.result = reached_told _ _ _ _ _ _ _ (omega arith) c.by.ensures in record {
      few = elim c.if-by.branch [ then-by w ↦ omega arith | else-by w ↦ omega arith ];
      counted = elim c.if-by.branch [
        | then-by w ↦ w.sum-is ∙ count_more _ l.i _ (h ∙ w.if-by.true) l.invariant.counted
        | else-by w ↦ w.sum-is ∙ count_same _ l.i _ (h ∙ w.if-by.false) l.invariant.counted
      ];
    }
