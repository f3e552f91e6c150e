use Rattle.octets.proofs.Laws.{get_two}
use Rattle.octets.proofs.get32.Goals as goal

pub returns : goal.returns
returns c = get_two _ _ 2 2 _ _ c.get16.ensures c.get16-2.ensures
