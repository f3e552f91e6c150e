use Prim.Native.Nat.{ℕ, ◌*◌}
use mathlib.Core.Path.{◌≡◌, ap}
use native.Mathlib.Omega.{arith}
use Rattle.rules.specs.Read.{length_for}
use Rattle.ticks.proofs.Telling.{replies_small}
use Rattle.ticks.proofs.replies_length.Goals as goal

pub overflow_mul-result : goal.overflow_mul-result
overflow_mul-result c = let e : c.length_for.result * c.args.k ≡ length_for c.args.s 5 1 * c.args.k = ap (λ (x : ℕ). x * c.args.k) c.length_for.ensures in omega (arith, replies_small c.args.s c.args.k c.requires.0 c.requires.1)

pub returns : goal.returns
returns c = let e : c.length_for.result * c.args.k ≡ length_for c.args.s 5 1 * c.args.k = ap (λ (x : ℕ). x * c.args.k) c.length_for.ensures in (e, omega (arith, replies_small c.args.s c.args.k c.requires.0 c.requires.1))
