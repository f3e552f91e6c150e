use mathlib.Core.Path.{ap}
use Rattle.kinds.specs.declared.Row.{Row}
use Rattle.kinds.proofs.Readings.{has_log, not_log}
use Rattle.kinds.proofs.with_log.Goals as goal

pub returns-in-ALog : goal.returns-in-ALog
returns-in-ALog c = has_log _ _ (ap (λ (r : Row). r.body) c.row_of-body.ensures) c.in-ALog.is

pub returns-in_default : goal.returns-in_default
returns-in_default c = not_log _ _ (ap (λ (r : Row). r.body) c.row_of-body.ensures) c.in_default.not-ALog
