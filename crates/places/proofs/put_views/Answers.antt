use mathlib.Core.Path.{◌≡◌}
use Prim.Native.Nat.{◌+◌, ◌*◌, ◌-◌}
use native.Mathlib.Omega.{arith}
use lib.ListN.{length, take, drop}
use Rattle.places.proofs.Writes.{lent_long, views_written}
use Rattle.places.proofs.put_views.Goals as goal

pub copy_in-requires : goal.copy_in-requires
copy_in-requires c = let a = c.args in let l : length (take (a.at + 4 * a.shape.s - a.at) (drop a.at a.src.now)) ≡ 4 * a.shape.s = lent_long a.src.now a.at (a.at + 4 * a.shape.s - a.at) (4 * a.shape.s) (omega arith) c.requires.1 in omega (arith, l, c.places_of-start.ensures.views, c.requires.0.size)

pub returns : goal.returns
returns c = let a = c.args in views_written _ _ a.src.now _ _ a.at (a.at + 4 * a.shape.s - a.at) (4 * a.shape.s) c.copy_in.ensures c.places_of-start.ensures.views (omega arith)
