use Rattle.votes.proofs.Came.{stays, enters}
use Rattle.votes.proofs.come_to.Goals as goal

pub returns-else-entering : goal.returns-else-entering
returns-else-entering c = stays _ _ _ _ c.args.entering c.requires.0 c.if-entering.false

pub returns-then-entering : goal.returns-then-entering
returns-then-entering c = enters _ _ _ _ c.args.entering c.if-entering.true c.enter.ensures
