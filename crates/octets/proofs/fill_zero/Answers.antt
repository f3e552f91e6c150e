use Prim.Native.Nat.{ℕ}
use native.Mathlib.Omega.{arith}
use lib.ListN.{length-take, length-drop}
use Rattle.octets.proofs.Turns.{zeros_home}
use Rattle.octets.proofs.fill_zero.Goals as goal

pub returns : goal.returns
returns c = rw c.fill.ensures.after (zeros_home _ _ _ _ _ (omega arith) (omega (arith, length-take {A = ℕ}, length-drop {A = ℕ})))
