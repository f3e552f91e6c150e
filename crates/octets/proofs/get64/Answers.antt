use Rattle.octets.proofs.Laws.{get_two}
use Rattle.octets.proofs.get64.Goals as goal

pub returns : goal.returns
returns c = get_two _ _ 4 4 _ _ c.get32.ensures c.get32-2.ensures
