use mathlib.Core.Path.{◌≡◌}
use Rattle.repeats.specs.Repeat.{first_to}
use Rattle.logs.specs.Place.{row_at, last_from, unfit_from}
use Rattle.logs.proofs.first_unfit.Given as goal

abbrev pub invariant-loop-i : goal.invariant-loop-i
invariant-loop-i l = (l.lower ≡ last_from l.initial.lower (row_at l.b l.at) l.i) × (first_to (unfit_from l.s l.k l.j l.initial.lower (row_at l.b l.at)) l.i ≡ l.i)
