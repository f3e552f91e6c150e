use Prim.Native.Nat.{◌+◌, ◌*◌, ◌-◌}
use mathlib.Core.Path.{◌≡◌}
use native.Mathlib.Omega.{arith}
use Rattle.early.specs.Listed.{indexed}
use Rattle.syncs.proofs.Home.{is_both, late_said}
use Rattle.syncs.proofs.late_length.Goals as goal

pub late_after-requires : goal.late_after-requires
late_after-requires c = let p = c.places_of-places in let m : p.result.notes - p.result.early ≡ 4 + 24 * c.args.shape.c + (4 + 24 * c.args.shape.c) = omega (arith, p.ensures.early, p.ensures.notes) in (is_both c.requires.0 (indexed c.args.log) c.args.last c.requires.2 p.result.early _ p.ensures.early m, c.requires.1)

pub returns : goal.returns
returns c = let p = c.places_of-places in let m : p.result.notes - p.result.early ≡ 4 + 24 * c.args.shape.c + (4 + 24 * c.args.shape.c) = omega (arith, p.ensures.early, p.ensures.notes) in late_said c.requires.0 (indexed c.args.log) c.args.last c.requires.2 p.result.early _ p.ensures.early m _ c.late_after.ensures
