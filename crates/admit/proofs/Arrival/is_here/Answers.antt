use Rattle.admit.proofs.Ways.{here_is}
use Rattle.admit.proofs.Arrival.is_here.Goals as goal

pub returns : goal.returns
returns c = search here_is
