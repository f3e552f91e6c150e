use Rattle.good.proofs.Heads.{points_is}
use Rattle.good.proofs.points_good.Goals as goal

pub returns : goal.returns
returns c = points_is _ _ c.requires.size _ _ _ c.log_length-count.ensures.0 c.get_sync-sync.ensures c.get_commit.ensures
