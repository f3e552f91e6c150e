use Prim.Native.Nat.{◌*◌, ◌-◌, ◌^◌, ◌<◌}
use mathlib.Core.Path.{◌≡◌}
use native.Mathlib.Omega.{arith}
use Rattle.commits.proofs.StatusKept.{status_kept}
use Rattle.commits.proofs.keep_status.Goals as goal

pub returns : goal.returns
returns c = let f : c.args.point < 256 ^ 8 = omega arith in let n : c.places_of-layout.result.log - c.places_of-layout.result.heard ≡ 9 * c.args.shape.n = omega (arith, c.places_of-layout.ensures.heard, c.places_of-layout.ensures.log) in status_kept c.requires.0 _ _ c.requires.1 f c.put_heard.ensures _ _ _ _ _ _ _ c.get_replica-own.ensures c.get_commit-before.ensures c.places_of-layout.ensures.heard n c.commit_point-commit.ensures c.put_commit.ensures
