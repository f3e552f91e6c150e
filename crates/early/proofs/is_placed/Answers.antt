use Rattle.early.proofs.Entries.{placed_any, placed_after, placed_not_after}
use Rattle.early.proofs.is_placed.Goals as goal

pub returns-in-Any : goal.returns-in-Any
returns-in-Any c = placed_any _ _ c.in-Any.is

pub returns-in-After : goal.returns-in-After
returns-in-After c = placed_after _ _ _ _ c.before-in-After.ensures c.in-After.is

pub returns-in-NotAfter : goal.returns-in-NotAfter
returns-in-NotAfter c = placed_not_after _ _ _ _ c.before-in-NotAfter.ensures c.in-NotAfter.is
