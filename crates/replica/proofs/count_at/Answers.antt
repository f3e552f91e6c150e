use native.Mathlib.Omega.{arith}
use Rattle.replica.proofs.count_at.Goals as goal

pub returns-then-s-gt8 : goal.returns-then-s-gt8
returns-then-s-gt8 c = λ h. absurd (omega (arith, c.if-s-gt8.true))

pub returns : goal.returns
returns c = λ h. c.numbers_at.ensures.0
