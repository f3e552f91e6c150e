use Rattle.places.proofs.Logged.{last_none, last_is}
use Rattle.places.proofs.last_entry.Goals as goal

pub returns-then-n-eq0 : goal.returns-then-n-eq0
returns-then-n-eq0 c = last_none _ _ c.requires _ c.log_length-n.ensures.0 c.if-n-eq0.true _ c.no_entry.ensures

pub returns : goal.returns
returns c = last_is _ _ c.requires _ c.log_length-n.ensures.0 c.if-n-eq0.false _ c.log_entry.ensures
