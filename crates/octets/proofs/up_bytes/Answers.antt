use Prim.Native.Nat.{◌-◌}
use native.Mathlib.Omega.{arith}
use Rattle.octets.proofs.Turns.{up_none, up_turn, up_done}
use Rattle.octets.proofs.up_bytes.Goals as goal

pub loop-i-init : goal.loop-i-init
loop-i-init c = up_none _ _ _ _ _ (omega arith)

pub loop-i-preserved : goal.loop-i-preserved
loop-i-preserved c = up_turn _ _ _ _ c.loop-i.i (c.loop-i.i - 1) 1 _ _ c.loop-i.invariant c.move_byte.ensures (omega arith) (omega arith) (omega arith) (omega arith)

pub returns : goal.returns
returns c = up_done _ _ _ _ c.loop-i.i _ c.loop-i.invariant (omega arith)
