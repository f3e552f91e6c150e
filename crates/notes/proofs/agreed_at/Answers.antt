use Prim.Native.Nat.{ℕ, ◌+◌, ◌*◌}
use mathlib.Core.Path.{◌≡◌, ap, ◌∙◌}
use native.Mathlib.Omega.{arith}
use Rattle.rules.specs.Choice.{is_some}
use Rattle.rules.specs.State.{noted_to}
use Rattle.notes.proofs.Notes.{inside, point_in}
use Rattle.notes.proofs.Points.{noted_none, noted_next}
use Rattle.notes.proofs.agreed_at.Goals as goal

pub loop-j-init : goal.loop-j-init
loop-j-init c = noted_none _ _

pub heard_at-requires : goal.heard_at-requires
heard_at-requires c = omega (arith, inside c.args.s c.args.i c.args.c (omega arith))

pub loop-j-preserved : goal.loop-j-preserved
loop-j-preserved c =
    let p = point_in _ _ _ _ c.requires.0 _ _ _ c.requires.1 c.loop-j-test.true (ap (λ (x : ℕ). x + 6 + 9 * c.loop-j.j) c.place-at.ensures.0) in
    noted_next _ _ _ _ _ _ c.loop-j.invariant c.holds.ensures (c.heard_at.ensures ∙ ap is_some p)

pub returns : goal.returns
returns c = let e : c.loop-j.j ≡ c.args.s = omega arith in c.loop-j.invariant ∙ ap (noted_to _ _) e
