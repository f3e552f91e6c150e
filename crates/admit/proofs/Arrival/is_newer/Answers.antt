use Rattle.admit.proofs.Ways.{newer_is}
use Rattle.admit.proofs.Arrival.is_newer.Goals as goal

pub returns : goal.returns
returns c = search newer_is
