use mathlib.Core.Path.{◌≡◌}
use lib.ListN.{length}
use Rattle.notes.specs.Notes.{notes_at, Notes}
use Rattle.early.specs.Listed.{indexed, stays}
use Rattle.early.proofs.Sifting.{Sifted}
use Rattle.early.proofs.leave_notes.Given as goal

abbrev pub invariant-loop-i : goal.invariant-loop-i
invariant-loop-i l = (l.n ≡ length (notes_at l.c l.s l.initial.t)) × (length l.t ≡ length l.initial.t) × Notes l.c l.s l.t × Sifted (stays (indexed l.index)) (notes_at l.c l.s l.initial.t) l.i l.kept (notes_at l.c l.s l.t)
