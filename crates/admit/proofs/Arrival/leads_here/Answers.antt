use Rattle.admit.proofs.Ways.{own_role, leads_is}
use Rattle.admit.proofs.Arrival.leads_here.Goals as goal

pub leads_in-requires : goal.leads_in-requires
leads_in-requires c = own_role c.requires.0.stands c.requires.0.heads _ c.get_group.ensures

pub returns : goal.returns
returns c = search leads_is
