use Rattle.votes.proofs.Counted.{second_kept}
use Rattle.votes.proofs.is_second.Goals as goal

pub returns : goal.returns
returns c = second_kept _ _ c.args.cast c.requires _ c.vote_flag-kept.ensures
