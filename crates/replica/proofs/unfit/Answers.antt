use mathlib.Core.Path.{sym, ◌∙◌}
use Rattle.rules.specs.Choice.{pick}
use Rattle.replica.proofs.unfit.Goals as goal

pub returns-then-sizes_fit : goal.returns-then-sizes_fit
unfolding pick
returns-then-sizes_fit c = rw (sym c.sizes_fit.ensures ∙ c.if-sizes_fit.true) c.code.ensures

pub returns : goal.returns
unfolding pick
returns c = rw (sym c.sizes_fit.ensures ∙ c.if-sizes_fit.false) c.code-2.ensures
