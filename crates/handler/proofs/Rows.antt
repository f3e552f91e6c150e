-- Messages in a row: how long they are together, and one more. Assumes nothing.
use Prim.Native.Nat.{ℕ, zero, suc, ◌+◌, ◌*◌, ◌≤◌, ◌<◌}
use mathlib.Core.Path.{◌≡◌, refl, ap, ap₂, ◌∙◌}
use mathlib.Core.Bool.{Bool, true, false}
use mathlib.Core.List.{List, [], ◌∷◌, ◌++◌, append-nil}
use native.Mathlib.Omega.{arith}
use native.Mathlib.Nat.{le_trans}
use lib.ListN.{length, length-append}
use lib.Dec.{leb}
use borrow.Author.Tests.{leb-true, leb-false}
use Rattle.octets.specs.Bytes.{flat}
use Rattle.octets.proofs.Codecs.{All, flat_append}
use Rattle.rules.specs.Choice.{pick, keep, below}
use Rattle.rules.specs.Wire.{Wire, wire_bytes}
use Rattle.rules.specs.Step.{sends}
use Rattle.rules.proofs.Choice.{by_cases, all_append, all_map, keep_append}

-- ---- the numbers below a number

pub length_below : (n : ℕ) → length (below n) ≡ n
unfolding below
length_below zero = refl
length_below (suc n) = length-append (below n) (n ∷ []) ∙ omega (arith, length_below n)

pub all_below : (n : ℕ) → All (λ j. j < n) (below n)
unfolding below
all_below zero = tt
all_below (suc n) = all_append (λ j. j < suc n) (below n) (n ∷ []) (all_map (λ j h. omega arith) (below n) (all_below n)) (omega arith, tt)

-- ---- in a row

module _ {A B : Type 0} where
  pub flat_snoc : (f : A → List B) (xs : List A) (x : A) → flat f (xs ++ (x ∷ [])) ≡ flat f xs ++ f x
  unfolding flat
  flat_snoc f xs x = flat_append f xs (x ∷ []) ∙ ap (λ (y : List B). flat f xs ++ y) (append-nil (f x))

  pub flat_ext : (f g : A → List B) (xs : List A) → All (λ x. f x ≡ g x) xs → flat f xs ≡ flat g xs
  unfolding flat
  flat_ext f g [] h = refl
  flat_ext f g (x ∷ xs) h = ap₂ ◌++◌ h.0 (flat_ext f g xs h.1)

  pub flat_even : (f : A → List B) (k : ℕ) (xs : List A) → All (λ x. length (f x) ≡ k) xs → length (flat f xs) ≡ k * length xs
  unfolding flat
  flat_even f k [] h = omega arith
  flat_even f k (x ∷ xs) h = length-append (f x) (flat f xs) ∙ omega (arith, h.0, flat_even f k xs h.1)

pub keep_ext : {A : Type 0} (p q : A → Bool) (xs : List A) → All (λ x. p x ≡ q x) xs → keep p xs ≡ keep q xs
unfolding keep
keep_ext p q [] h = refl
keep_ext p q (x ∷ xs) h = rw (h.0, keep_ext p q xs h.1)

-- ---- those below a number that pass

module _ (p : ℕ → Bool) where
  pub kept_more : (j : ℕ) → p j ≡ true → keep p (below (j + 1)) ≡ keep p (below j) ++ (j ∷ [])
  unfolding below keep pick
  kept_more j h = let e : j + 1 ≡ suc j = omega arith in rw e (keep_append p (below j) (j ∷ []) ∙ rw h)

  pub kept_same : (j : ℕ) → p j ≡ false → keep p (below (j + 1)) ≡ keep p (below j)
  unfolding below keep pick
  kept_same j h = let e : j + 1 ≡ suc j = omega arith in rw e (keep_append p (below j) (j ∷ []) ∙ rw h (append-nil (keep p (below j))))

  kept_grows : (n : ℕ) → length (keep p (below n)) ≤ length (keep p (below (suc n)))
  unfolding below
  kept_grows n = rw (keep_append p (below n) (n ∷ []), length-append (keep p (below n)) (keep p (n ∷ []))) (omega arith)

  pub kept_within : (j n : ℕ) → j ≤ n → length (keep p (below j)) ≤ length (keep p (below n))
  kept_within j zero h = let e : j ≡ 0 = omega arith in rw e (omega arith)
  kept_within j (suc n) h = by_cases (leb j n) (λ t. le_trans (kept_within j n (leb-true j n t)) (kept_grows n)) (λ f. let e : j ≡ suc n = omega (arith, leb-false j n f) in rw e (omega arith))

-- ---- messages

module _ (f : ℕ → Wire) where
  pub sends_snoc : (js : List ℕ) (j : ℕ) → sends f (js ++ (j ∷ [])) ≡ sends f js ++ (f j ∷ [])
  unfolding sends
  sends_snoc [] j = refl
  sends_snoc (i ∷ js) j = ap (λ (ws : List Wire). f i ∷ ws) (sends_snoc js j)

  -- their bytes, one by one
  pub sends_flat : (js : List ℕ) → flat wire_bytes (sends f js) ≡ flat (λ j. wire_bytes (f j)) js
  unfolding sends flat
  sends_flat [] = refl
  sends_flat (j ∷ js) = ap (λ (b : List ℕ). wire_bytes (f j) ++ b) (sends_flat js)

  -- messages of one length, together
  pub sends_length : (k : ℕ) (js : List ℕ) → All (λ j. length (wire_bytes (f j)) ≡ k) js → length (flat wire_bytes (sends f js)) ≡ k * length js
  sends_length k js h = ap length (sends_flat js) ∙ flat_even (λ j. wire_bytes (f j)) k js h

  -- for the numbers below a number
  pub sends_below : (k n : ℕ) → ((j : ℕ) → j < n → length (wire_bytes (f j)) ≡ k) → length (flat wire_bytes (sends f (below n))) ≡ k * n
  sends_below k n h = sends_length k (below n) (all_map h (below n) (all_below n)) ∙ ap (λ (m : ℕ). k * m) (length_below n)

  -- the bytes of one more
  pub sends_more : (n : ℕ) → flat wire_bytes (sends f (below (n + 1))) ≡ flat wire_bytes (sends f (below n)) ++ wire_bytes (f n)
  unfolding below
  sends_more n = let e : n + 1 ≡ suc n = omega arith in rw e (ap (flat wire_bytes) (sends_snoc (below n) n) ∙ flat_snoc wire_bytes (sends f (below n)) (f n))
