use mathlib.Core.Path.{◌∙◌}
use Rattle.good.proofs.Whole.{judged_orderable}
use Rattle.good.proofs.orderable.Goals as goal

pub returns : goal.returns
returns c = c.judge.ensures ∙ judged_orderable _ _
