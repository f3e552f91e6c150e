-- a share of n that is less than the whole
use Prim.Native.Nat.{ℕ, ◌*◌, ◌/◌, ◌-◌, ◌≤◌, ◌<◌}
use mathlib.Core.Path.{ap}
use native.Mathlib.Nat.{mul-le-mul_left, mul-le-mul_right}
use native.Mathlib.Omega.{arith}
use Rattle.hashed.specs.Table.{slot_of}
use Rattle.hashed.proofs.slot.Goals as goal

share : (h n : ℕ) → h < 4294967296 → h * n / 4294967296 ≤ n
share h n l =
    let k : h * n ≤ 4294967296 * n = mul-le-mul_right n (omega arith) in
    omega arith

pub overflow_mul-result : goal.overflow_mul-result
overflow_mul-result c = let k : c.args.size - 64 ≤ 65535 = omega arith in omega (arith, mul-le-mul_left c.hash.result k)

pub returns : goal.returns
unfolding slot_of
returns c = (ap (λ (h : ℕ). h * (c.args.size - 64) / 4294967296) c.hash.ensures.0, omega (arith, share c.hash.result (c.args.size - 64) c.hash.ensures.1))
