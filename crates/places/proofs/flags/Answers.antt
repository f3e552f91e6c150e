use mathlib.Core.Path.{◌∙◌, sym}
use native.Mathlib.Omega.{arith}
use Rattle.group.proofs.Commit.{count_none, count_more, count_same}
use Rattle.places.proofs.flags.Goals as goal
use Rattle.places.proofs.flags.Goals.{else-flag, then-flag}

pub loop-i-init : goal.loop-i-init
loop-i-init c = record { few = omega arith; counted = count_none _ }

pub loop-i-preserved : goal.loop-i-preserved
loop-i-preserved c = let l = c.loop-i in let h = sym c.flag.ensures in record {
  few = elim c.if-flag.branch [ then-flag w ↦ omega arith | else-flag w ↦ omega arith ];
  counted = elim c.if-flag.branch [
    | then-flag w ↦ w.sum-is ∙ count_more _ l.i _ (h ∙ w.if-flag.true) l.invariant.counted
    | else-flag w ↦ w.sum-is ∙ count_same _ l.i _ (h ∙ w.if-flag.false) l.invariant.counted
  ];
}
