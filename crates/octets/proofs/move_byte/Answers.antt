use native.Mathlib.Omega.{arith}
use Rattle.octets.proofs.Turns.{written}
use Rattle.octets.proofs.move_byte.Goals as goal

pub returns : goal.returns
returns c = written _ _ 1 _ _ _ _ c.get8-byte.ensures c.put8.ensures (λ i. (c.slice_known-1.given i).fits) (omega arith)
