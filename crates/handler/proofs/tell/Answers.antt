use Prim.Native.Nat.{◌-◌, ◌*◌}
use mathlib.Core.Path.{◌≡◌}
use native.Mathlib.Omega.{arith}
use Rattle.handler.proofs.Sends.{message_is}
use Rattle.handler.proofs.tell.Goals as goal

pub returns : goal.returns
returns c = let p = c.places_of-places.result in let q = c.places_of-places.ensures in let a = c.args in let n : p.heard - p.views ≡ 4 * a.shape.s = omega (arith, q.views, q.heard) in let e = message_is a.shape a.state.now a.m a.entries.now p.views (p.heard - p.views) q.views n in rw e at c.put_message.ensures
