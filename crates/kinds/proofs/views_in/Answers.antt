use native.Mathlib.Omega.{arith}
use Rattle.rules.specs.Choice.{pick}
use Rattle.kinds.proofs.views_in.Goals as goal

pub returns-then-bare : goal.returns-then-bare
unfolding pick
returns-then-bare c = (simp (← c.bare.ensures, c.if-bare.true), omega arith)

pub returns : goal.returns
unfolding pick
returns c = (simp (← c.bare.ensures, c.if-bare.false), omega arith)
