use Rattle.admit.proofs.Ways.{sender_below, from_leader_is}
use Rattle.admit.proofs.Arrival.from_leader.Goals as goal

pub leads_in-requires : goal.leads_in-requires
leads_in-requires c = sender_below c.requires.0.stands c.requires.0.heads c.requires.1

pub returns : goal.returns
returns c = search from_leader_is
