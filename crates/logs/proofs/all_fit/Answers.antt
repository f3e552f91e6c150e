use Prim.Native.Nat.{ℕ, ◌<◌, ◌+◌, ◌*◌}
use mathlib.Core.Path.{◌≡◌}
use mathlib.Core.Bool.{true, false}
use Rattle.std.proofs.Common.{rules, Some}
use Rattle.std.proofs.iter.runs.Sources.{ranges}
use Rattle.rules.specs.Read.{entry_at}
use Rattle.logs.specs.Place.{fits}
use Rattle.logs.proofs.Every.{every_by}
use Rattle.logs.proofs.all_fit.Goals as goal

pub returns : goal.returns
returns c =
    let a = c.args in
    let all_fits : c.all.result ≡ true → (j : ℕ) → j < a.count → fits a.s a.k a.k a.last (entry_at a.b.now (a.at + 24 * j)) ≡ true
    = λ r j l.
    let n : c.all.ensures.runs.0.len ≡ a.count = search (rules, ranges) in
    let x : c.all.ensures.runs.0.at j ≡ Some j = search (rules, ranges) in
    search (rules, ranges) in
    let one_fails : c.all.result ≡ false → (j : ℕ) × (j < a.count) × (fits a.s a.k a.k a.last (entry_at a.b.now (a.at + 24 * j)) ≡ false) = search (rules, ranges) in
    every_by _ _ _ _ _ _ all_fits one_fails
