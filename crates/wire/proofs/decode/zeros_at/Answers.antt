use Rattle.octets.proofs.Laws.{get_two}
use Rattle.wire.proofs.decode.zeros_at.Goals as goal

pub returns : goal.returns
returns c = get_two _ 5 2 1 _ _ c.look16.ensures c.look8.ensures
