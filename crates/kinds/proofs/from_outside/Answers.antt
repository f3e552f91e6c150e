use mathlib.Core.Path.{ap}
use Rattle.kinds.specs.declared.Row.{Row}
use Rattle.kinds.proofs.Readings.{from_outsider, from_other}
use Rattle.kinds.proofs.from_outside.Goals as goal

pub returns-in-Outsider : goal.returns-in-Outsider
returns-in-Outsider c = from_outsider _ _ (ap (λ (r : Row). r.sender) c.row_of-sender.ensures) c.in-Outsider.is

pub returns-in_default : goal.returns-in_default
returns-in_default c = from_other _ _ (ap (λ (r : Row). r.sender) c.row_of-sender.ensures) c.in_default.not-Outsider
