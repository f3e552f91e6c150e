use mathlib.Core.Bool.{true}
use mathlib.Core.Path.{◌≡◌}
use Rattle.notes.proofs.Tested.{good_notes}
use Rattle.notes.proofs.notes_good.Given as goal

abbrev pub invariant-loop-i : goal.invariant-loop-i
invariant-loop-i l = good_notes l.s l.t l.i ≡ true
