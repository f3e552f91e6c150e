use mathlib.Core.Path.{refl}
use native.Mathlib.Omega.{arith}
use Rattle.octets.proofs.Turns.{none_yet, down_next, all_done}
use Rattle.octets.proofs.down_bytes.Goals as goal

pub loop-i-init : goal.loop-i-init
loop-i-init c = none_yet _ _ _ _

pub loop-i-preserved : goal.loop-i-preserved
loop-i-preserved c = down_next _ _ _ _ 1 _ _ _ c.loop-i.invariant c.move_byte.ensures (omega arith) (omega arith) refl

pub returns : goal.returns
returns c = search all_done
