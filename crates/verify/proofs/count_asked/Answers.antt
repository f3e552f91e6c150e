use mathlib.Core.Path.{refl, sym, ◌∙◌}
use native.Mathlib.Omega.{arith}
use Rattle.verify.proofs.Asked.{counted_none, counted_more, counted_same}
use Rattle.verify.proofs.count_asked.Goals as goal
use Rattle.verify.proofs.count_asked.Goals.{else-is_asked, then-is_asked}

pub loop-i-init : goal.loop-i-init
loop-i-init c = (omega arith, counted_none _ _ _, refl)

pub loop-i-preserved : goal.loop-i-preserved
loop-i-preserved c = let l = c.loop-i in let o = rw c.entry_at.ensures at c.is_asked.ensures in (elim c.if-is_asked.branch [ then-is_asked w ↦ omega arith | else-is_asked w ↦ omega arith ], elim c.if-is_asked.branch [ then-is_asked w ↦ w.asked-is ∙ counted_more _ _ _ l.i _ (sym o ∙ w.if-is_asked.true) l.invariant.1 | else-is_asked w ↦ w.asked-is ∙ counted_same _ _ _ l.i _ (sym o ∙ w.if-is_asked.false) l.invariant.1 ], l.invariant.2)
