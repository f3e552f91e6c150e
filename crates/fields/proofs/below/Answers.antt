use mathlib.Core.Path.{ap}
use Prim.Native.Nat.{ℕ}
use native.Mathlib.Omega.{arith}
use lib.Dec.{ltb}
use Rattle.group.proofs.Masks.{shifted}
use Rattle.fields.proofs.below.Goals as goal

pub returns : goal.returns
returns c = ap (λ (x : ℕ). ltb c.args.mask x) (shifted 64 c.args.s (omega arith))
