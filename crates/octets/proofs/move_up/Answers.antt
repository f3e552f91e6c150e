use native.Mathlib.Omega.{arith}
use Rattle.octets.proofs.Turns.{up_next}
use Rattle.octets.proofs.move_up.Goals as goal

pub returns : goal.returns
returns c = up_next _ _ _ _ _ _ _ _ c.up_words.ensures c.up_bytes.ensures (omega arith) (omega arith) (omega arith)
