use Rattle.rooms.proofs.Ways.{not_good, is_good, good_stands}
use Rattle.rooms.proofs.step_with.Goals as goal

pub returns-then-not-good : goal.returns-then-not-good
returns-then-not-good g c = search not_good

pub answer-requires : goal.answer-requires
answer-requires g c = (is_good _ _ _ c.good.ensures c.if-not-good.false-raw, c.read-m.ensures)
