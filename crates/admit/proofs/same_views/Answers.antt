use Prim.Native.Nat.{ℕ, ◌<◌, ◌+◌, ◌*◌}
use mathlib.Core.Path.{◌≡◌, ap, ◌∙◌}
use mathlib.Core.Bool.{true, false}
use lib.Dec.{eqb}
use Rattle.std.proofs.Common.{rules, Some}
use Rattle.std.proofs.iter.runs.Sources.{ranges}
use Rattle.octets.specs.Bytes.{num, items}
use Rattle.rules.specs.Choice.{same}
use Rattle.admit.proofs.Ways.{views_by, views_in}
use Rattle.admit.proofs.same_views.Goals as goal

pub returns : goal.returns
returns c =
    let a = c.args in
    let all_agree : c.all.result ≡ true → (j : ℕ) → j < a.shape.s → eqb (num a.message.now (16 + 4 * j) 4) (num a.state.now (48 + 4 * j) 4) ≡ true
    = λ r j l.
    let n : c.all.ensures.runs.0.len ≡ a.shape.s = search (rules, ranges) in
    let x : c.all.ensures.runs.0.at j ≡ Some j = search (rules, ranges) in
    search (rules, ranges) in
    let one_differs : c.all.result ≡ false → (j : ℕ) × (j < a.shape.s) × (eqb (num a.message.now (16 + 4 * j) 4) (num a.state.now (48 + 4 * j) 4) ≡ false) = search (rules, ranges) in
    views_by (λ x. num a.message.now x 4) (λ x. num a.state.now x 4) 16 48 a.shape.s c.all.result all_agree one_differs ∙ ap (same (items (λ (x : ℕ). num a.message.now x 4) 4 16 a.shape.s)) (views_in c.requires)
