use Rattle.replica.proofs.Face.{good_zero, good_one}
use mathlib.Core.Path.{refl}
use Rattle.replica.proofs.jallumere_good.Goals as goal

pub returns-then-good : goal.returns-then-good
returns-then-good c = good_zero _ _ _ 0 refl c.good.ensures c.if-good.true

pub returns : goal.returns
returns c = good_one _ _ _ 1 refl c.good.ensures c.if-good.false
