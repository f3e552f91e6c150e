use Rattle.handler.proofs.Own.{own_below}
use Rattle.changes.proofs.Entered.{leads_with_lem}
use borrow.Author.Rules.{rules}
use Rattle.changes.proofs.leads_by.Goals as goal

pub overflow_mul-own : goal.overflow_mul-own
overflow_mul-own c = let h = own_below c.requires.0 _ c.get_group-own.ensures in search rules

pub overflow_add-own : goal.overflow_add-own
overflow_add-own c = let h = own_below c.requires.0 _ c.get_group-own.ensures in search rules

pub get32-view-requires : goal.get32-view-requires
get32-view-requires c = let h = own_below c.requires.0 _ c.get_group-own.ensures in search rules

pub returns : goal.returns
returns c = leads_with_lem c.requires.0 _ _ _ _ _ c.get_group-own.ensures c.get32-view.ensures c.get_replica.ensures c.leads.ensures
