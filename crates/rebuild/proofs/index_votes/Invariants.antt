use Rattle.rebuild.specs.Tables.{votes_of}
use Rattle.rebuild.specs.Tables.{Indexed}
use Rattle.rebuild.proofs.index_votes.Given as goal

abbrev pub invariant-loop-r : goal.invariant-loop-r
invariant-loop-r l = Indexed (votes_of l.votes) l.r l.index l.slots
