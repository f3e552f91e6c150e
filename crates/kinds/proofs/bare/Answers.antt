use mathlib.Core.Path.{ap}
use Rattle.kinds.specs.declared.Row.{Row}
use Rattle.kinds.proofs.bare.Goals as goal

pub returns : goal.returns
returns c = ap (λ (r : Row). r.bare) c.row_of.ensures
