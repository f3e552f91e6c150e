use Prim.Native.Nat.{◌+◌}
use native.Mathlib.Omega.{arith}
use Rattle.octets.proofs.Turns.{zeros_joint, zeros_pair}
use Rattle.octets.proofs.zero_block.Goals as goal

pub returns : goal.returns
returns c = zeros_joint _ _ (c.args.at + 16) 16 48 64 _ _ (zeros_pair _ _ _ _ _ c.get64-7.ensures c.get64-8.ensures (omega arith)) (zeros_joint _ _ (c.args.at + 32) 16 32 48 _ _ (zeros_pair _ _ _ _ _ c.get64-5.ensures c.get64-6.ensures (omega arith)) (zeros_joint _ _ (c.args.at + 48) 16 16 32 _ _ (zeros_pair _ _ _ _ _ c.get64-3.ensures c.get64-4.ensures (omega arith)) (zeros_pair _ _ _ _ _ c.get64.ensures c.get64-2.ensures (omega arith)) (omega arith) (omega arith)) (omega arith) (omega arith)) (omega arith) (omega arith)
