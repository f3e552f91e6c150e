use mathlib.Core.Path.{ap}
use Rattle.kinds.specs.declared.Row.{Row}
use Rattle.kinds.proofs.Readings.{to_outsiders, to_other}
use Rattle.kinds.proofs.to_outside.Goals as goal

pub returns-in-Outsiders : goal.returns-in-Outsiders
returns-in-Outsiders c = to_outsiders _ _ (ap (λ (r : Row). r.receiver) c.row_of-receiver.ensures) c.in-Outsiders.is

pub returns-in_default : goal.returns-in_default
returns-in_default c = to_other _ _ (ap (λ (r : Row). r.receiver) c.row_of-receiver.ensures) c.in_default.not-Outsiders
