use Rattle.readers.proofs.Fields.{no_leader, the_leader}
use Rattle.readers.proofs.own_leader.Goals as goal

pub returns-then-shape-own : goal.returns-then-shape-own
returns-then-shape-own c = no_leader _ _ c.requires.size _ c.get_group-own.ensures c.if-shape-own.true

pub returns : goal.returns
returns c = the_leader _ _ c.requires.size _ c.get_group-own.ensures _ c.if-shape-own.false c.view_at.ensures
