use Prim.Native.Nat.{ℕ, ◌+◌, ◌*◌}
use mathlib.Core.Path.{ap, ◌∙◌}
use native.Mathlib.Omega.{arith}
use Rattle.notes.proofs.Notes.{inside, point_in}
use Rattle.notes.proofs.stamp_of.Goals as goal

pub point_at-requires : goal.point_at-requires
point_at-requires c = omega (arith, inside c.args.s c.args.i c.args.c (omega arith))

pub returns : goal.returns
returns c = c.point_at.ensures ∙ point_in _ _ _ _ c.requires.0 _ _ _ c.requires.1 c.requires.2 (ap (λ (x : ℕ). x + 6 + 9 * c.args.j) c.place.ensures.0)
