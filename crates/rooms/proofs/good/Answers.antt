use Rattle.rooms.proofs.Ways.{wrong_length}
use Rattle.rooms.proofs.good.Goals as goal

pub returns-then-not-has_length : goal.returns-then-not-has_length
returns-then-not-has_length c = search wrong_length
