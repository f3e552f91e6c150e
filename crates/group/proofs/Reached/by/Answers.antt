use Rattle.group.proofs.Commit.{own_reached, unheard, heard_reached}
use Rattle.group.proofs.Reached.by.Goals as goal

pub returns-then-i-self : goal.returns-then-i-self
returns-then-i-self c = search own_reached

pub returns-then-get8-eq0 : goal.returns-then-get8-eq0
returns-then-get8-eq0 c = search unheard

pub returns : goal.returns
returns c = search heard_reached
