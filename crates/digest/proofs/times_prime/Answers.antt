use Rattle.std.proofs.Common.{arith}
use Rattle.digest.proofs.Laws.{prime_apart}
use Rattle.digest.proofs.times_prime.Goals as goal

pub returns : goal.returns
returns c = rw c.wrapping_add_u32.ensures.value (prime_apart _ _ _ _ (omega arith) c.times_435-product.ensures c.shifted_by_40.ensures)
