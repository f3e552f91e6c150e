use Prim.Native.Nat.{ℕ, ◌+◌, ◌*◌}
use mathlib.Core.Path.{◌≡◌, ap, ◌∙◌}
use native.Mathlib.Omega.{arith}
use Rattle.rules.specs.State.{greatest_to}
use Rattle.notes.proofs.Notes.{inside, point_in}
use Rattle.notes.proofs.Points.{greatest_none, greatest_next}
use Rattle.notes.proofs.greatest_at.Goals as goal

pub loop-j-init : goal.loop-j-init
loop-j-init c = greatest_none _ _

pub raised-best-requires : goal.raised-best-requires
raised-best-requires c = omega (arith, inside c.args.s c.args.i c.args.c (omega arith))

pub loop-j-preserved : goal.loop-j-preserved
loop-j-preserved c = let p = point_in _ _ _ _ c.requires.0 _ _ _ c.requires.1 c.loop-j-test.true (ap (λ (x : ℕ). x + 6 + 9 * c.loop-j.j) c.place-at.ensures.0) in greatest_next _ _ _ _ _ _ _ c.loop-j.invariant c.holds.ensures p c.raised-best.ensures

pub returns : goal.returns
returns c = let e : c.loop-j.j ≡ c.args.s = omega arith in c.loop-j.invariant ∙ ap (greatest_to _ _) e
