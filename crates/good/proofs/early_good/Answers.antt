use mathlib.Core.Bool.{not}
use mathlib.Core.Path.{ap}
use Rattle.good.proofs.Apart.{early_idle, early_follower, early_leader, early_is}
use borrow.Author.Rules.{rules}
use Rattle.good.proofs.early_good.Goals as goal

pub returns-then-get_status-ne-NORMAL : goal.returns-then-get_status-ne-NORMAL
returns-then-get_status-ne-NORMAL c = early_idle _ _ c.requires.0.sized.size _ c.get_status.ensures c.if-get_status-ne-NORMAL.true

pub returns-then-not-leads : goal.returns-then-not-leads
returns-then-not-leads c = early_follower _ _ c.requires.0.sized.size _ c.leads.ensures (ap not c.if-not-leads.true)

pub all_noted-requires : goal.all_noted-requires
all_noted-requires c = (search rules, c.requires.1.notes, search rules, c.requires.2)

pub returns : goal.returns
returns c = early_leader _ _ c.requires.0.sized.size _ _ _ c.get_status.ensures c.if-get_status-ne-NORMAL.false c.leads.ensures (ap not c.if-not-leads.false) (early_is _ _ c.requires.0.sized.size _ c.requires.1.is _ _ _ c.places_of-at.ensures.early c.get_group-group.ensures c.all_noted.ensures)
