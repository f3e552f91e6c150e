use native.Mathlib.Omega.{arith}
use Rattle.octets.proofs.Turns.{copy_all}
use Rattle.octets.proofs.copy_in.Goals as goal

pub returns : goal.returns
returns c = copy_all _ _ _ _ _ _ _ c.copy_words.ensures c.copy_bytes.ensures (omega arith) (omega arith)
