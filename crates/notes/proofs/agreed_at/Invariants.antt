use mathlib.Core.Path.{◌≡◌}
use Rattle.rules.specs.State.{noted_to}
use Rattle.notes.specs.Notes.{notes_at, note_in}
use Rattle.notes.proofs.agreed_at.Given as goal

abbrev pub invariant-loop-j : goal.invariant-loop-j
invariant-loop-j l = l.all ≡ noted_to l.mask (note_in (notes_at l.c l.s l.t) l.i).stamps l.j
