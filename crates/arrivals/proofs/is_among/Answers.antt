use Rattle.entries.proofs.Table.{row_among}
use mathlib.Core.Path.{◌∙◌}
use Rattle.arrivals.proofs.is_among.Goals as goal

pub returns : goal.returns
returns c = row_among _ _ _ c.requires c.args.e _ _ (c.count-n.ensures ∙ c.requires.count) c.find.ensures
