-- Laws of tests that the library does not have. Assumes nothing.
use Prim.Native.Nat.{ℕ}
use mathlib.Core.Path.{◌≡◌, refl, sym}
use mathlib.Core.Bool.{Bool, true, false, ◌&&◌}
use lib.Dec.{eqb}
use borrow.Author.Tests.{eq-eqb, ne_eqb, eqb-true, eqb-false}

-- four tests, taken crosswise
pub and_cross : (a b x y : Bool) → ((a && b) && (x && y)) ≡ ((a && x) && (b && y))
and_cross true b true y = refl
and_cross true true false y = refl
and_cross true false false y = refl
and_cross false b x y = refl

-- the first two of three exchanged, and the last two
pub and_swap : (a b c : Bool) → (a && (b && c)) ≡ (b && (a && c))
and_swap true b c = refl
and_swap false true c = refl
and_swap false false c = refl

pub and_turn : (a b c : Bool) → ((a && b) && c) ≡ ((a && c) && b)
and_turn false b c = refl
and_turn true true true = refl
and_turn true true false = refl
and_turn true false true = refl
and_turn true false false = refl

pub eqb_sym : (a b : ℕ) → eqb a b ≡ eqb b a
eqb_sym a b = go (eqb a b) refl
  where
    go : (t : Bool) → eqb a b ≡ t → t ≡ eqb b a
    go true e = sym (eq-eqb b a (sym (eqb-true a b e)))
    go false e = sym (ne_eqb b a (λ q. eqb-false a b e (sym q)))
