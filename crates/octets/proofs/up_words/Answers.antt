use Prim.Native.Nat.{◌-◌, ◌*◌}
use native.Mathlib.Omega.{arith}
use Rattle.octets.proofs.Turns.{up_none, up_turn, up_done}
use Rattle.octets.proofs.up_words.Goals as goal

pub loop-word-init : goal.loop-word-init
loop-word-init c = up_none _ _ _ _ _ (omega arith)

pub loop-word-preserved : goal.loop-word-preserved
loop-word-preserved c = up_turn _ _ _ _ (8 * c.loop-word.word) (8 * (c.loop-word.word - 1)) 8 _ _ c.loop-word.invariant c.move_word.ensures (omega arith) (omega arith) (omega arith) (omega arith)

pub returns : goal.returns
returns c = up_done _ _ _ _ (8 * c.loop-word.word) _ c.loop-word.invariant (omega arith)
