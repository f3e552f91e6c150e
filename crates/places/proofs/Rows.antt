-- Things of one length in a row: place r read, and place r written. Assumes nothing.
use Prim.Native.Nat.{ℕ, zero, suc, ◌+◌, ◌*◌, ◌≤◌, ◌<◌}
use mathlib.Core.Path.{◌≡◌, refl, sym, ap, ◌∙◌}
use mathlib.Core.List.{List, [], ◌∷◌, ◌++◌}
use native.Mathlib.Omega.{arith}
use native.Mathlib.Nat.{not-suc-le-zero, le_of_suc-le-suc, mul-le-mul_left, eq_of_mul-eq-mul_left}
use lib.ListN.{length, drop, get_or, set, length-append}
use Rattle.octets.specs.Bytes.{part, splice, flat}
use Rattle.octets.proofs.Laws.{part_front, part_back, splice_at, splice_back}
use Rattle.octets.proofs.Codecs.{All, Codec, get_or_items, back_all}

-- place r of n lies within them
pub within : (k r n : ℕ) → r < n → k * r + k ≤ k * n
within k r n h = let m : k * suc r ≤ k * n = mul-le-mul_left k h in omega arith

module _ {A : Type 0} (put : A → List ℕ) (k : ℕ) where
  -- each has k bytes
  abbrev pub Even : List A → Type 0
  Even xs = All (λ x. length (put x) ≡ k) xs

  pub long_row : (xs : List A) → Even xs → length (flat put xs) ≡ k * length xs
  unfolding flat
  long_row [] h = omega arith
  long_row (x ∷ xs) h = length-append (put x) (flat put xs) ∙ omega (arith, h.0, long_row xs h.1)

  -- so their number follows from the length of the row
  pub places_row : (xs : List A) (n : ℕ) → 0 < k → Even xs → length (flat put xs) ≡ k * n → length xs ≡ n
  places_row xs n p h e = eq_of_mul-eq-mul_left k p (length xs) n (sym (long_row xs h) ∙ e)

  pub even_set : (xs : List A) (r : ℕ) (y : A) → Even xs → length (put y) ≡ k → Even (set xs r y)
  even_set [] r y h e = tt
  even_set (x ∷ xs) zero y h e = (e, h.1)
  even_set (x ∷ xs) (suc r) y h e = (h.0, even_set xs r y h.1 e)

  -- inside place r, from its byte j on
  pub get_row : (d : A) (xs : List A) (r j n : ℕ) → Even xs → r < length xs → j + n ≤ k → part (flat put xs) (k * r + j) n ≡ part (put (get_or xs r d)) j n
  unfolding flat
  get_row d [] r j n h l e = absurd (not-suc-le-zero l)
  get_row d (x ∷ xs) zero j n h l e =
      let z : k * 0 + j ≡ j = omega arith in
      let f : j + n ≤ length (put x) = omega (arith, h.0) in
      rw z (part_front (put x) (flat put xs) j n f)
  get_row d (x ∷ xs) (suc r) j n h l e =
      let m : k * suc r + j ≡ length (put x) + (k * r + j) = omega (arith, h.0) in
      rw m (part_back (put x) (flat put xs) (k * r + j) n ∙ get_row d xs r j n h.1 (le_of_suc-le-suc l) e)

  pub set_row : (xs : List A) (r : ℕ) (y : A) → Even xs → length (put y) ≡ k → r < length xs → splice (flat put xs) (k * r) (put y) ≡ flat put (set xs r y)
  unfolding flat
  set_row [] r y h e l = absurd (not-suc-le-zero l)
  set_row (x ∷ xs) zero y h e l =
      let z : k * 0 ≡ 0 = omega arith in
      rw z (splice_at [] (put x) (flat put xs) (put y) 0 refl (h.0 ∙ sym e))
  set_row (x ∷ xs) (suc r) y h e l =
      let m : k * suc r ≡ length (put x) + k * r = omega (arith, h.0) in
      rw m (splice_back (put x) (flat put xs) (k * r) (put y) ∙ ap (λ (z : List ℕ). put x ++ z) (set_row xs r y h.1 e (le_of_suc-le-suc l)))

-- what is read at place r
pub row_at : {A : Type 0} {k : ℕ} {put : A → List ℕ} {get : List ℕ → ℕ → A} {Fits : A → Type 0} (c : Codec A k put get Fits) (b : List ℕ) (o : ℕ) (xs : List A) (q : List ℕ) (d : A) (r : ℕ) → All Fits xs → drop o b ≡ flat put xs ++ q → r < length xs → get b (o + k * r) ≡ get_or xs r d
row_at {k = k} {get = get} c b o xs q d r f e h =
    sym (get_or_items (get b) k o (length xs) r d h) ∙ ap (λ (ys : List _). get_or ys r d) (back_all c b o (length xs) xs q f refl e)
