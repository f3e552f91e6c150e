use Prim.Native.Nat.{◌+◌, ◌*◌}
use mathlib.Core.Path.{◌≡◌, refl}
use native.Mathlib.Omega.{arith}
use native.Mathlib.Nat.{zero-add}
use Rattle.places.specs.Layout.{start_of}
use Rattle.changes.proofs.Logged.{log_lent}
use Rattle.rules.specs.Image.{at_log}
use Rattle.changes.proofs.tell_log.Goals as goal

pub returns : goal.returns
returns c = let a = c.args in let p = c.log_place-start in let k = c.log_length in let q : p.result ≡ start_of a.shape at_log + 4 = omega (arith, p.ensures.0) in let e = log_lent a.shape a.state.now p.result k.result (p.result + 24 * k.result) q k.ensures.0 refl in rw (e, zero-add) at c.tell.ensures
