use Prim.Native.Nat.{◌+◌, ◌*◌}
use mathlib.Core.Path.{refl}
use native.Mathlib.Omega.{arith}
use Rattle.releases.proofs.LogBytes.{copied}
use Rattle.releases.proofs.copy_released.Goals as goal

pub returns : goal.returns
returns c = let a = c.args in let p = c.places_of.result.log + (4 + 24 * a.n) in copied c.requires.0 a.n a.k p c.requires.1 (omega (arith, c.places_of.ensures.log)) (p + 24 * a.k) _ _ refl c.requires.2 c.copy_in.ensures
