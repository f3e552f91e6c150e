use Prim.Native.Nat.{◌<◌}
use mathlib.Core.Path.{◌∙◌}
use native.Mathlib.Omega.{arith}
use lib.ListN.{length}
use Rattle.notes.specs.Notes.{notes_at}
use Rattle.notes.proofs.Notes.{inside, transaction_in}
use Rattle.notes.proofs.Row.{row_start, row_pass, row_stop, row_end}
use Rattle.notes.proofs.find.Goals as goal

pub loop-i-init : goal.loop-i-init
loop-i-init c = row_start _ _ _

pub is_of-requires : goal.is_of-requires
is_of-requires c = omega (arith, inside c.args.s c.loop-i.i c.args.c (omega arith))

pub returns-then-is_of : goal.returns-then-is_of
returns-then-is_of c = let l : c.loop-i.i < length (notes_at c.args.c c.args.s c.args.t.now) = omega arith in row_stop _ _ _ _ l (transaction_in _ _ _ _ c.requires _ _ _ _ _ l c.place.ensures.0 c.is_of.ensures ∙ c.if-is_of.true) c.loop-i.invariant

pub loop-i-preserved : goal.loop-i-preserved
loop-i-preserved c = let l : c.loop-i.i < length (notes_at c.args.c c.args.s c.args.t.now) = omega arith in row_pass _ _ _ _ l (transaction_in _ _ _ _ c.requires _ _ _ _ _ l c.place.ensures.0 c.is_of.ensures ∙ c.if-is_of.false) c.loop-i.invariant

pub returns : goal.returns
returns c = row_end _ _ _ c.loop-i.i _ (c.count-n.ensures ∙ c.requires.count) (omega arith) (omega arith) c.loop-i.invariant
