use native.Mathlib.Omega.{arith}
use Rattle.group.proofs.Masks.{positive, rises_more}
use Rattle.group.proofs.others.Goals as goal

pub overflow_sub-result : goal.overflow_sub-result
overflow_sub-result c = omega (arith, positive c.args.n)

pub overflow_sub-result-2 : goal.overflow_sub-result-2
overflow_sub-result-2 c = omega (arith, positive c.args.r, rises_more c.args.r c.args.n c.requires.0)
