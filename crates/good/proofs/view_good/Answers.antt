use Rattle.good.proofs.Heads.{view_is}
use Rattle.good.proofs.view_good.Goals as goal

pub returns : goal.returns
returns c = view_is _ _ c.requires.sized.size _ _ _ _ c.get_status-status.ensures c.get_normal-normal.ensures c.get_view-view.ensures c.leads.ensures
