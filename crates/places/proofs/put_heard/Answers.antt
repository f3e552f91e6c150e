use Prim.Native.Nat.{◌+◌, ◌≤◌}
use native.Mathlib.Omega.{arith}
use lib.ListN.{length}
use Rattle.places.proofs.Writes.{point_written}
use Rattle.places.proofs.put_heard.Goals as goal

pub returns : goal.returns
returns c = let h : c.heard_place-at.result + 9 ≤ length c.args.state.now = omega (arith, c.heard_place-at.ensures.within, c.requires.0.size) in point_written _ _ _ _ _ _ h c.heard_place-at.ensures.at c.put8.ensures c.put64.ensures
