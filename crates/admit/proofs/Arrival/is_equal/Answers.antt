use Rattle.admit.proofs.Ways.{equal_is}
use Rattle.admit.proofs.Arrival.is_equal.Goals as goal

pub returns : goal.returns
returns c = search equal_is
