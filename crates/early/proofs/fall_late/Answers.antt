use mathlib.Core.Path.{refl, ◌∙◌}
use native.Mathlib.Omega.{arith}
use Rattle.early.specs.Listed.{indexed, chosen}
use Rattle.early.specs.declared.Which.TheVariants.{NotAfter}
use Rattle.early.specs.Buffers.{late_in}
use Rattle.early.proofs.Buffers.{both_count, fall_start, fall_turn, fall_end, fall_asked}
use borrow.Author.Rules.{rules}
use Rattle.early.proofs.fall_late.Goals as goal

pub count-n-requires : goal.count-n-requires
count-n-requires c = omega (arith, c.requires.0.size)

pub loop-i-init : goal.loop-i-init
loop-i-init c = (c.count-n.ensures ∙ both_count c.requires.0, refl, fall_start _ _ c.requires.0)

pub fall-requires : goal.fall-requires
fall-requires c = let a = c.args in let p = chosen (indexed a.index) (NotAfter a.last) in let w = fall_asked p _ (late_in a.c a.t.now) c.loop-i.i (omega arith) c.loop-i.invariant.2 c.requires.1 in (w.0, w.1, w.2, c.requires.2)

pub loop-i-preserved : goal.loop-i-preserved
loop-i-preserved c = let a = c.args in let p = chosen (indexed a.index) (NotAfter a.last) in (c.loop-i.invariant.0, search rules, fall_turn p _ (late_in a.c a.t.now) c.loop-i.i (omega arith) c.loop-i.invariant.2 c.fall.ensures)

pub returns : goal.returns
returns c = let a = c.args in let p = chosen (indexed a.index) (NotAfter a.last) in fall_end p _ (late_in a.c a.t.now) c.loop-i.i (omega arith) c.loop-i.invariant.2
