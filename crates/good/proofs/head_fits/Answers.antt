use Rattle.good.proofs.Heads.{head_is}
use Rattle.good.proofs.head_fits.Goals as goal

pub returns : goal.returns
returns c = head_is _ _ c.requires.size _ _ _ _ _ c.get_group-group.ensures c.get_replica-replica.ensures c.get_status-status.ensures c.get_clock-clock.ensures c.get_boundary-boundary.ensures
