use Rattle.octets.proofs.Laws.{num_one}
use Rattle.octets.proofs.get8.Goals as goal

pub returns : goal.returns
returns c = search num_one
