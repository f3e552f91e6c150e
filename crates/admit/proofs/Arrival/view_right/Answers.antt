use Rattle.admit.proofs.Ways.{view_any, view_greater, view_either, view_equal}
use Rattle.admit.proofs.Cells.{either_viewed, equal_viewed}
use borrow.Author.Rules.{rules}
use Rattle.admit.proofs.Arrival.view_right.Goals as goal

pub is_equal-requires : goal.is_equal-requires
is_equal-requires c = search (rules, either_viewed)

pub is_equal-requires-in-BothEqual : goal.is_equal-requires-in-BothEqual
is_equal-requires-in-BothEqual c = search (rules, equal_viewed)

pub returns-in-AnyView : goal.returns-in-AnyView
returns-in-AnyView c = search view_any

pub returns-in-Greater : goal.returns-in-Greater
returns-in-Greater c = search view_greater

pub returns-in-GreaterOrEqual : goal.returns-in-GreaterOrEqual
returns-in-GreaterOrEqual c = search view_either

pub returns-in-BothEqual : goal.returns-in-BothEqual
returns-in-BothEqual c = search view_equal
