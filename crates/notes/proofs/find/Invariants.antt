use Prim.Native.Nat.{◌+◌}
use mathlib.Core.Path.{◌≡◌}
use lib.ListN.{drop}
use Rattle.notes.specs.Notes.{notes_at, row}
use Rattle.notes.proofs.find.Given as goal

abbrev pub invariant-loop-i : goal.invariant-loop-i
invariant-loop-i l = (row l.request l.coordinator (notes_at l.c l.s l.t) ≡ l.i + row l.request l.coordinator (drop l.i (notes_at l.c l.s l.t)))
