use Rattle.admit.proofs.Ways.{roles_are}
use Rattle.admit.proofs.Arrival.role_right.Goals as goal

pub returns : goal.returns
returns c = search roles_are
