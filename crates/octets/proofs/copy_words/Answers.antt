use Prim.Native.Nat.{◌*◌}
use native.Mathlib.Omega.{arith}
use Rattle.octets.proofs.Turns.{none_yet, copy_turn, all_done}
use Rattle.octets.proofs.copy_words.Goals as goal

pub loop-word-init : goal.loop-word-init
loop-word-init c = none_yet _ _ _ _

pub loop-word-preserved : goal.loop-word-preserved
loop-word-preserved c = copy_turn _ _ _ _ (8 * c.loop-word.word) 8 _ _ _ _ c.loop-word.invariant c.get64.ensures c.put64.ensures (λ i. (c.type_inv.src i).fits) (omega arith) (omega arith) (omega arith)

pub returns : goal.returns
returns c = all_done _ _ _ _ (8 * c.loop-word.word) _ _ (omega arith) (omega arith) c.loop-word.invariant
