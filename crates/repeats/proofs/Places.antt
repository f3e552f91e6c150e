-- Where a key stands, run by run; that it lies inside; and a key by its first 4 bytes and its last 2.
use mathlib.Core.Path.{◌≡◌, refl, sym}
use mathlib.Core.Bool.{Bool, true, false}
use mathlib.Core.List.{List}
use Prim.Native.Nat.{ℕ, suc, ◌+◌, ◌-◌, ◌*◌, ◌<◌, ◌≤◌}
use native.Mathlib.Decide.{dec_lt}
use native.Mathlib.Nat.{mul-le-mul_left, mul-suc}
use native.Mathlib.Omega.{arith}
use borrow.Author.Tests.{lt-ltb, le-ltb, eq-eqb, ne_eqb, eqb-true, eqb-false}
use lib.Dec.{eqb}
use lib.ListN.{length}
use Rattle.octets.specs.Bytes.{num}
use Rattle.octets.proofs.Laws.{get_two}
use Rattle.rules.specs.Choice.{pick}
use Rattle.repeats.specs.declared.Spots.{Spots}
use Rattle.repeats.specs.Rows.{count_of, spot_of, key_of, Inside}

module _ (sp : Spots) (i : ℕ) where
  pub spot_first : i < sp.first.count → sp.first.at + sp.stride * i ≡ spot_of sp i
  unfolding spot_of pick
  spot_first h = simp (lt-ltb _ _ h)

  pub spot_second : sp.first.count ≤ i → i - sp.first.count < sp.second.count → sp.second.at + sp.stride * (i - sp.first.count) ≡ spot_of sp i
  unfolding spot_of pick
  spot_second h l = simp (le-ltb _ _ h, lt-ltb _ _ l)

  pub spot_third : sp.first.count ≤ i → sp.second.count ≤ i - sp.first.count → sp.third.at + sp.stride * (i - sp.first.count - sp.second.count) ≡ spot_of sp i
  unfolding spot_of pick
  spot_third h l = simp (le-ltb _ _ h, le-ltb _ _ l)

-- key i of n in a run whose last key ends inside
run_in : (at stride n i len : ℕ) → i < n → at + stride * n + 6 ≤ len + stride → at + stride * i + 6 ≤ len
run_in at stride n i len h l =
    let k : stride * suc i ≤ stride * n = mul-le-mul_left stride h in
    omega (arith, mul-suc stride i)

module _ (b : List ℕ) (sp : Spots) (i : ℕ) (w : Inside b sp) (h : i < count_of sp) where
  in_later : sp.first.count ≤ i → Dec (i - sp.first.count < sp.second.count) → spot_of sp i + 6 ≤ length b
  in_later f (yes l) =
      omega (arith, spot_second sp i f l, run_in sp.second.at sp.stride sp.second.count (i - sp.first.count) (length b) l w.two)
  in_later f (no l) =
      omega (arith, spot_third sp i f (omega (arith, l)), run_in sp.third.at sp.stride sp.third.count (i - sp.first.count - sp.second.count) (length b) (omega (arith, l)) w.three)

  in_any : Dec (i < sp.first.count) → spot_of sp i + 6 ≤ length b
  in_any (yes l) = omega (arith, spot_first sp i l, run_in sp.first.at sp.stride sp.first.count i (length b) l w.one)
  in_any (no l) = in_later (omega (arith, l)) (dec_lt (i - sp.first.count) sp.second.count)

  -- every key lies inside
  pub spot_in : spot_of sp i + 6 ≤ length b
  spot_in = in_any (dec_lt i sp.first.count)

module _ (b : List ℕ) (sp : Spots) (i at u v : ℕ) (e : at ≡ spot_of sp i) (eu : u ≡ num b at 4) where
  -- a key by its two parts
  pub key_parts : v ≡ num b (at + 4) 2 → u + v * 4294967296 ≡ key_of b sp i
  unfolding key_of
  key_parts ev = rw (← e) (get_two b at 4 2 u v eu ev)

-- equal parts are equal keys, and the other way
module _ (b : List ℕ) (sp : Spots) (i at u low high : ℕ) (e : at ≡ spot_of sp i) (eu : u ≡ num b at 4) where
  pub same_not : u < 4294967296 → low < 4294967296 → (u ≡ low → ⊥) → false ≡ eqb (key_of b sp i) (low + high * 4294967296)
  same_not hu hl n =
      let k : u + num b (at + 4) 2 * 4294967296 ≡ key_of b sp i = key_parts b sp i at u (num b (at + 4) 2) e eu refl in
      sym (ne_eqb (key_of b sp i) (low + high * 4294967296) (λ z. n (omega arith)))

  same_high : (v : ℕ) → u + v * 4294967296 ≡ key_of b sp i → u ≡ low → (t : Bool) → eqb v high ≡ t → t ≡ eqb (key_of b sp i) (low + high * 4294967296)
  same_high v k l true f =
      let z : v ≡ high = eqb-true v high f in
      sym (eq-eqb (key_of b sp i) (low + high * 4294967296) (omega arith))
  same_high v k l false f = sym (ne_eqb (key_of b sp i) (low + high * 4294967296) (λ z. eqb-false v high f (omega arith)))

  pub same_when : (v : ℕ) → v ≡ num b (at + 4) 2 → u ≡ low → eqb v high ≡ eqb (key_of b sp i) (low + high * 4294967296)
  same_when v ev l = same_high v (key_parts b sp i at u v e eu ev) l (eqb v high) refl
