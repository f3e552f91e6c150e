use Rattle.octets.proofs.Laws.{get_two}
use Rattle.octets.proofs.get16.Goals as goal

pub returns : goal.returns
returns c = get_two _ _ 1 1 _ _ c.get8.ensures c.get8-2.ensures
