use native.Mathlib.Omega.{arith}
use Rattle.octets.proofs.Turns.{written}
use Rattle.octets.proofs.move_word.Goals as goal

pub returns : goal.returns
returns c = written _ _ 8 _ _ _ _ c.get64-word.ensures c.put64.ensures (λ i. (c.slice_known-1.given i).fits) (omega arith)
