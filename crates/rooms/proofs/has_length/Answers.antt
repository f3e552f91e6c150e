use mathlib.Core.Path.{ap}
use lib.Dec.{eqb}
use Rattle.rooms.proofs.has_length.Goals as goal

pub returns : goal.returns
returns c = ap (eqb _) c.state_length.ensures
