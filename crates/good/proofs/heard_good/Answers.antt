use Rattle.good.proofs.Heads.{heard_is}
use Rattle.good.proofs.heard_good.Goals as goal

pub returns : goal.returns
returns c = heard_is _ _ c.requires.sized.size _ _ _ _ _ c.log_length-count.ensures.0 c.get_status-status.ensures c.get_sync-sync.ensures c.leads-leading.ensures c.heard_within-within.ensures
