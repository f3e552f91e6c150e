use Prim.Native.Nat.{◌≤◌, ◌<◌}
use native.Mathlib.Omega.{arith}
use lib.ListN.{length}
use Rattle.notes.specs.Notes.{notes_at}
use Rattle.notes.proofs.Notes.{is_notes}
use Rattle.notes.proofs.Writes.{keep_found, new_within, keep_new}
use Rattle.notes.proofs.keep.Goals as goal

pub returns-then-i-count : goal.returns-then-i-count
returns-then-i-count c = let l : c.find-i.result < length (notes_at c.args.c c.args.s c.args.t.now) = omega arith in keep_found _ _ _ _ _ _ _ c.find-i.ensures _ l c.hear.ensures

pub hear-requires-2 : goal.hear-requires-2
hear-requires-2 c = let l : length (notes_at c.args.c c.args.s c.args.t.now) ≤ c.find-i.result = omega arith in (is_notes _ _ _ _ c.append.ensures, new_within _ _ c.args.e c.args.j c.args.stamp _ _ c.find-i.ensures _ l c.append.ensures, c.requires.2)

pub returns : goal.returns
returns c = let l : length (notes_at c.args.c c.args.s c.args.t.now) ≤ c.find-i.result = omega arith in keep_new _ _ _ _ _ _ _ c.find-i.ensures _ l c.append.ensures _ c.hear-2.ensures
