use Rattle.good.proofs.Heads.{kept_is}
use Rattle.good.proofs.kept_good.Goals as goal

pub returns : goal.returns
returns c = kept_is _ _ c.requires.size _ _ _ _ _ _ c.get_status-status.ensures c.held_votes-votes.ensures c.held_replies-replies.ensures c.votes_good-votes_fine.ensures c.replies_good-replies_fine.ensures c.majority.ensures
