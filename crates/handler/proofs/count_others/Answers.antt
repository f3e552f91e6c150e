use Prim.Native.Nat.{ℕ}
use mathlib.Core.Path.{◌≡◌, sym, ap, ◌∙◌}
use native.Mathlib.Omega.{arith}
use lib.ListN.{length}
use Rattle.rules.specs.Choice.{keep, below}
use Rattle.handler.proofs.Leaders.{other_in, counted_none, counted_more, counted_same}
use borrow.Author.Rules.{rules}
use Rattle.handler.proofs.count_others.Goals as goal
use Rattle.handler.proofs.count_others.Goals.{else-is_other, then-is_other}

pub loop-j-init : goal.loop-j-init
loop-j-init c = (search rules, counted_none _ _)

pub loop-j-preserved : goal.loop-j-preserved
loop-j-preserved c = let l = c.loop-j in let o = rw c.get_group-own.ensures at c.is_other.ensures in (elim c.if-is_other.branch [ then-is_other w ↦ omega arith | else-is_other w ↦ omega arith ], elim c.if-is_other.branch [ then-is_other w ↦ w.count-is ∙ counted_more _ _ l.j _ (sym o ∙ w.if-is_other.true) l.invariant.1 | else-is_other w ↦ w.count-is ∙ counted_same _ _ l.j _ (sym o ∙ w.if-is_other.false) l.invariant.1 ])

pub returns : goal.returns
returns c = let l = c.loop-j in let a = c.args in let e : l.j ≡ a.shape.s = omega arith in (l.invariant.1 ∙ ap (λ (n : ℕ). length (keep (other_in a.state.now a.mask) (below n))) e, omega arith)
