use Rattle.views.proofs.Kept.{vote_begun}
use Rattle.views.proofs.begin_vote.Goals as goal

pub returns : goal.returns
returns c = vote_begun _ _ _ _ _ _ _ c.requires c.put8.ensures c.put32.ensures c.put64.ensures
