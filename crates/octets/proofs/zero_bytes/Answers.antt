use Rattle.std.proofs.Common.{◌≡◌, ◌+◌, ◌-◌, ◌↔◌, List, ℕ, take, drop, get_or, rules, ap, arith, IsTrue, EachIndex}
use Rattle.octets.proofs.Turns.{zeros_each}
use Rattle.octets.specs.Bytes.{part}
use Rattle.octets.proofs.zero_bytes.Goals as goal

pub returns : goal.returns
unfolding part
returns c =
    let a = c.args in
    let x : List ℕ = take (a.at + a.n - a.at) (drop a.at a.s.now) in
    let h : IsTrue c.all.result ↔ EachIndex x (λ i. get_or x i 0 ≡ 0) = search rules in
    let l : a.at + a.n - a.at ≡ a.n = omega arith in
    zeros_each a.s.now x a.at a.n c.all.result h (ap (λ (m : ℕ). take m (drop a.at a.s.now)) l)
