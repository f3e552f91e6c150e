use Rattle.rules.specs.State.{agreed}
use Rattle.rules.specs.Image.{table_at}
use Rattle.notes.specs.Notes.{sized, notes_at}
use Rattle.releases.proofs.Run.{Passed}
use Rattle.releases.proofs.run_of.Given as goal

abbrev pub invariant-loop-i : goal.invariant-loop-i
invariant-loop-i l = Passed (agreed (sized l.c l.s) (notes_at l.c l.s l.notes)) l.due (table_at l.c l.early 0) l.i
