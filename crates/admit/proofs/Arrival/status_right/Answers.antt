use Rattle.admit.proofs.Ways.{status_if_equal, status_always}
use Rattle.admit.proofs.Arrival.status_right.Goals as goal

pub returns-then-row : goal.returns-then-row
returns-then-row c = search status_if_equal

pub returns : goal.returns
returns c = search status_always
