use mathlib.Core.Path.{ap}
use Rattle.kinds.specs.declared.Row.{Row}
use Rattle.kinds.proofs.Readings.{has_one, not_one}
use Rattle.kinds.proofs.with_one.Goals as goal

pub returns-in-OneEntry : goal.returns-in-OneEntry
returns-in-OneEntry c = has_one _ _ (ap (λ (r : Row). r.body) c.row_of-body.ensures) c.in-OneEntry.is

pub returns-in_default : goal.returns-in_default
returns-in_default c = not_one _ _ (ap (λ (r : Row). r.body) c.row_of-body.ensures) c.in_default.not-OneEntry
