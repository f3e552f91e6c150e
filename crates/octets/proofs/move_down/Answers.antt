use native.Mathlib.Omega.{arith}
use Rattle.octets.proofs.Turns.{down_next}
use Rattle.octets.proofs.move_down.Goals as goal

pub returns : goal.returns
returns c = down_next _ _ _ _ _ _ _ _ c.down_words.ensures c.down_bytes.ensures (omega arith) (omega arith) (omega arith)
