use Prim.Native.Nat.{◌≤◌, ◌+◌, ◌*◌}
use mathlib.Core.Path.{refl, sym, ◌∙◌}
use native.Mathlib.Omega.{arith}
use native.Mathlib.Nat.{mul-le-mul_left}
use lib.ListN.{length}
use Rattle.rules.specs.Image.{note_length}
use Rattle.notes.proofs.Notes.{inside}
use Rattle.notes.proofs.Tested.{good_none, good_next, good_stop, good_over, good_rest}
use Rattle.notes.proofs.notes_good.Goals as goal

pub returns-then-c-n : goal.returns-then-c-n
returns-then-c-n c = good_over _ _ _ (λ i. (c.type_inv.t i).fits) c.requires.0 c.requires.1 _ c.count-n.ensures c.if-c-n.true

pub loop-i-init : goal.loop-i-init
loop-i-init c = sym (good_none _ _ _ _ _ _ _)

pub note_good-requires : goal.note_good-requires
note_good-requires c = (omega (arith, inside c.args.s c.loop-i.i c.args.c (omega arith)), c.requires.2)

pub returns-then-not-note_good : goal.returns-then-not-note_good
returns-then-not-note_good c = good_rest _ _ _ (λ i. (c.type_inv.t i).fits) c.requires.0 c.requires.1 c.count-n.result c.count-n.result _ _ _ _ c.count-n.ensures c.if-c-n.false (omega arith) (omega arith) refl refl (good_stop _ _ _ _ _ _ _ c.loop-i.i _ _ _ (omega arith) (omega (arith, mul-le-mul_left {m = c.count-n.result} {n = c.args.c} (note_length c.args.s) (omega arith))) c.place.ensures.0 c.note_good.ensures c.if-not-note_good.true) refl

pub loop-i-preserved : goal.loop-i-preserved
loop-i-preserved c = let l : 4 + note_length c.args.s * (c.loop-i.i + 1) ≤ length c.args.t.now = omega (arith, inside c.args.s c.loop-i.i c.args.c (omega arith)) in sym (good_next _ _ _ _ _ _ _ _ _ _ _ l c.place.ensures.0 (sym c.loop-i.invariant) (sym c.if-not-note_good.false ∙ c.note_good.ensures))

pub overflow_sub-place : goal.overflow_sub-place
overflow_sub-place c = omega (arith, mul-le-mul_left {m = c.count-n.result} {n = c.args.c} (note_length c.args.s) (omega arith))

pub all_zero-requires : goal.all_zero-requires
all_zero-requires c = omega (arith, mul-le-mul_left {m = c.count-n.result} {n = c.args.c} (note_length c.args.s) (omega arith))

pub returns : goal.returns
returns c = good_rest _ _ _ (λ i. (c.type_inv.t i).fits) c.requires.0 c.requires.1 _ c.loop-i.i _ _ _ _ c.count-n.ensures c.if-c-n.false (omega arith) (omega arith) c.place-free.ensures.0 c.place-2.ensures.0 (sym c.loop-i.invariant) c.all_zero.ensures
