use Rattle.good.proofs.Tables.{last_none, last_is}
use Rattle.good.proofs.last_entry.Goals as goal

pub returns-then-n-eq0 : goal.returns-then-n-eq0
returns-then-n-eq0 c = last_none _ _ _ _ c.count_at-n.ensures c.if-n-eq0.true _ c.no_entry.ensures

pub returns : goal.returns
returns c = last_is _ _ _ _ c.count_at-n.ensures c.if-n-eq0.false _ c.entry_at.ensures
