use Rattle.replica.proofs.Face.{gives}
use Rattle.replica.proofs.jallumere_start.Goals as goal

pub returns : goal.returns
returns c = search gives
