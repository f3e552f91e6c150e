use Rattle.handler.proofs.Own.{own_below, leads_is}
use borrow.Author.Rules.{rules}
use Rattle.handler.proofs.leads.Goals as goal

pub view_at-view-requires : goal.view_at-view-requires
view_at-view-requires c = (search rules, own_below c.requires _ c.get_group-own.ensures)

pub returns : goal.returns
returns c = leads_is c.requires _ _ _ _ c.get_group-own.ensures c.view_at-view.ensures c.get_replica.ensures c.leads.ensures
