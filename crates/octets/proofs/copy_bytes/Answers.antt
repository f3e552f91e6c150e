use native.Mathlib.Omega.{arith}
use Rattle.octets.proofs.Turns.{none_yet, copy_turn, all_done}
use Rattle.octets.proofs.copy_bytes.Goals as goal

pub loop-i-init : goal.loop-i-init
loop-i-init c = none_yet _ _ _ _

pub loop-i-preserved : goal.loop-i-preserved
loop-i-preserved c = copy_turn _ _ _ _ c.loop-i.i 1 _ _ _ _ c.loop-i.invariant c.get8.ensures c.put8.ensures (λ i. (c.type_inv.src i).fits) (omega arith) (omega arith) (omega arith)

pub returns : goal.returns
returns c = search all_done
