use mathlib.Core.Path.{◌∙◌}
use Rattle.good.proofs.Whole.{judged_good}
use Rattle.good.proofs.good.Goals as goal

pub returns : goal.returns
returns c = c.judge.ensures ∙ judged_good _ _
