use Prim.Native.Nat.{ℕ, ◌<◌}
use mathlib.Core.Path.{◌≡◌}
use mathlib.Core.Bool.{true, false, not}
use Rattle.std.proofs.Common.{rules, Some}
use Rattle.std.proofs.iter.runs.Sources.{ranges}
use Rattle.rules.specs.Group.{holds}
use Rattle.notes.proofs.Points.{unmasked_by}
use Rattle.notes.proofs.unmasked.Goals as goal

pub returns : goal.returns
returns c =
    let a = c.args in
    let all_hold : c.all.result ≡ true → (j : ℕ) → j < a.s → not (holds a.mask j) ≡ true
    = λ r j l.
    let n : c.all.ensures.runs.0.len ≡ a.s = search (rules, ranges) in
    let x : c.all.ensures.runs.0.at j ≡ Some j = search (rules, ranges) in
    search (rules, ranges) in
    let one_fails : c.all.result ≡ false → (j : ℕ) × (j < a.s) × (not (holds a.mask j) ≡ false) = search (rules, ranges) in
    unmasked_by _ _ _ all_hold one_fails
