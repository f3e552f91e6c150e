use Prim.Native.Nat.{ℕ, ◌+◌, ◌*◌, ◌^◌, ◌<◌}
use mathlib.Core.Path.{ap}
use native.Mathlib.Omega.{arith}
use Rattle.notes.proofs.Notes.{inside}
use Rattle.notes.proofs.Writes.{hear_law}
use Rattle.notes.proofs.hear.Goals as goal

pub put_point-requires : goal.put_point-requires
put_point-requires c = omega (arith, inside c.args.s c.args.i c.args.c (omega arith))

pub returns : goal.returns
returns c = let v : c.args.stamp < 256 ^ 8 = omega arith in hear_law _ _ _ _ c.requires.0 _ _ _ _ _ v c.requires.1 c.requires.2 (ap (λ (x : ℕ). x + 6 + 9 * c.args.j) c.place.ensures.0) c.put_point.ensures
