use mathlib.Core.Path.{refl}
use native.Mathlib.Omega.{arith}
use Rattle.rules.specs.Kind.{row_of}
use Rattle.rules.specs.Choice.{pick}
use Rattle.commits.proofs.tell_commit.Goals as goal

pub tell-requires : goal.tell-requires
unfolding pick row_of
tell-requires c = (c.requires.0, refl, omega arith, omega arith)
