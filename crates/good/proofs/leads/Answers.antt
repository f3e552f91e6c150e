use Rattle.good.proofs.Heads.{leads_is}
use Rattle.good.proofs.leads.Goals as goal

pub returns : goal.returns
returns c = leads_is _ _ c.requires.sized.size _ _ _ _ c.requires.group c.get_group.ensures c.view_at-view.ensures c.get_replica.ensures c.leads.ensures
