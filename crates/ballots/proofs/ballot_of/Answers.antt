use Rattle.ballots.proofs.Votes.{tells_sender, tells_other, tells_own, tells_none, tells_kept}
use Rattle.ballots.proofs.ballot_of.Goals as goal

pub returns-then-r-cast : goal.returns-then-r-cast
returns-then-r-cast c = λ msg. tells_sender _ _ msg _ c.requires.0 _ c.if-r-cast.true

pub returns-then-r-get_replica : goal.returns-then-r-get_replica
returns-then-r-get_replica c = λ msg. tells_other _ _ msg _ c.requires.0 _ c.requires.1 c.if-r-cast.false _ c.if-cast.true c.get_replica.ensures c.if-r-get_replica.true

pub returns-then-cast : goal.returns-then-cast
returns-then-cast c = λ msg. tells_own _ _ msg _ c.requires.0 _ c.requires.1 c.if-r-cast.false _ _ _ c.if-cast.true c.get_replica.ensures c.if-r-get_replica.false c.get_normal.ensures c.get_sync.ensures

pub returns-then-not-vote_flag : goal.returns-then-not-vote_flag
returns-then-not-vote_flag c = λ msg. tells_none _ _ msg _ c.requires.0 _ c.requires.1 c.if-r-cast.false _ c.if-cast.false c.vote_flag.ensures c.if-not-vote_flag.true

pub returns : goal.returns
returns c = λ msg. tells_kept _ _ msg _ c.requires.0 _ c.requires.1 c.if-r-cast.false _ c.if-cast.false c.vote_flag.ensures _ _ c.if-not-vote_flag.false c.vote_normal.ensures c.vote_sync.ensures
