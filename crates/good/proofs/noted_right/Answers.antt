use Rattle.good.proofs.Apart.{no_note, not_noted, was_noted}
use Rattle.good.proofs.noted_right.Goals as goal

pub returns-then-count-i : goal.returns-then-count-i
returns-then-count-i c = no_note _ _ _ c.requires.0 _ _ _ c.requires.2 c.count.ensures _ c.if-count-i.true

pub returns-in-None : goal.returns-in-None
returns-in-None c = search not_noted

pub returns-in-Some : goal.returns-in-Some
returns-in-Some c = search was_noted
