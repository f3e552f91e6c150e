-- Powers of two within a width, and masks at or past their width.
use mathlib.Core.Path.{◌≡◌, ◌∙◌, ap, sym}
use mathlib.Core.Bool.{false, and-true}
use Prim.Native.Nat.{ℕ, suc, ◌+◌, ◌*◌, ◌%◌, ◌^◌, ◌<◌, ◌≤◌}
use native.Mathlib.Nat.{pow-le-pow_right, one-le-pow, two-pow-succ, div-eq_of_lt, mod-eq_of_lt, one-mul}
use native.Mathlib.Omega.{arith}
use lib.Dec.{eqb, ltb}
use borrow.Author.Tests.{lt-ltb}
use Rattle.rules.specs.Group.{holds, some_of}

-- powers of two rise
pub rises : {k m : ℕ} → k ≤ m → 2 ^ k ≤ 2 ^ m
rises h = pow-le-pow_right (omega arith) h

pub rises_more : (k m : ℕ) → k < m → 2 ^ k + 2 ^ k ≤ 2 ^ m
rises_more k m h = let e : 2 ^ suc k ≤ 2 ^ m = rises h in omega (arith, two-pow-succ k)

pub positive : (k : ℕ) → 1 ≤ 2 ^ k
positive k = one-le-pow k 2 (omega arith)

-- a shift within the width loses nothing
pub shifted : (w k : ℕ) → k < w → 1 * 2 ^ k % 2 ^ w ≡ 2 ^ k
shifted w k h = ap (λ (x : ℕ). x % 2 ^ w) (one-mul (2 ^ k)) ∙ mod-eq_of_lt (omega (arith, rises_more k w h, positive k))

module _ (w mask k : ℕ) (fits : mask < 2 ^ w) (past : w ≤ k) where
  short : mask < 2 ^ k
  short = omega (arith, rises past)

  pub none_past : false ≡ holds mask k
  none_past = sym (ap (λ (x : ℕ). eqb (x % 2) 1) (div-eq_of_lt short))

  pub all_past : ltb 0 mask ≡ some_of mask k
  all_past = sym (rw (lt-ltb mask (2 ^ k) short) (and-true (ltb 0 mask)))
