use native.Mathlib.Omega.{arith}
use Rattle.wire.proofs.Formed.{all_wide}
use Rattle.wire.proofs.body_wide.Goals as goal

pub returns : goal.returns
returns c = (c.body_wrong.ensures, all_wide c.args.numbers.now (λ i. omega (arith, c.shared_slice_known-1.given i)))
