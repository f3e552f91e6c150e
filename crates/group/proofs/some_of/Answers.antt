use mathlib.Core.Path.{ap}
use mathlib.Core.Bool.{◌&&◌}
use Prim.Native.Nat.{ℕ}
use native.Mathlib.Omega.{arith}
use lib.Dec.{ltb}
use Rattle.group.proofs.Masks.{all_past, shifted}
use Rattle.group.proofs.some_of.Goals as goal

pub returns-then-k-ge16 : goal.returns-then-k-ge16
returns-then-k-ge16 c = all_past 16 c.args.mask c.args.k (omega arith) c.if-k-ge16.true

pub returns : goal.returns
returns c = ap (λ (x : ℕ). ltb 0 c.args.mask && ltb c.args.mask x) (shifted 64 c.args.k (omega arith))
