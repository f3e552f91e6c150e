use Prim.Native.Nat.{◌+◌, ◌*◌}
use native.Mathlib.Omega.{arith}
use Rattle.releases.proofs.LogBytes.{digest_is}
use Rattle.releases.proofs.log_digest.Goals as goal

pub returns : goal.returns
returns c = let p = c.places_of-start.result.log in digest_is c.requires (p + 4) (p + 4 + 24 * c.log_length-n.result) _ (omega (arith, c.places_of-start.ensures.log)) (omega (arith, c.log_length-n.ensures.0)) c.digest_of.ensures
