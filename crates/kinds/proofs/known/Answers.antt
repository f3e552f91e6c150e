use mathlib.Core.Path.{ap}
use Rattle.kinds.specs.declared.Row.{Row}
use Rattle.kinds.proofs.known.Goals as goal

pub returns : goal.returns
returns c = ap (λ (r : Row). r.known) c.row_of.ensures
