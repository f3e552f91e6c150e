-- The notes of transactions that leave: one transaction after the other, each with one note at most. Assumes nothing.
use Prim.Native.Nat.{ℕ, suc, ◌+◌, ◌≤◌, ◌<◌}
use mathlib.Core.Path.{◌≡◌, refl, sym, ap, ap₂, ◌∙◌}
use mathlib.Core.Bool.{Bool, true, false, ◌&&◌, ◌||◌, not, or-false}
use mathlib.Core.List.{List, [], ◌∷◌, ◌++◌}
use native.Mathlib.Omega.{arith}
use lib.ListN.{length, take, drop}
use lib.Dec.{eqb}
use borrow.Author.Tests.{eqb-true}
use Rattle.octets.proofs.Logic.{eqb_sym}
use Rattle.rules.specs.Choice.{pick, any, every, keep}
use Rattle.rules.specs.State.{Note, note_of, notes_distinct}
use Rattle.rules.specs.Early.{notes_without}
use Rattle.rules.specs.declared.Entry.{Entry}
use Rattle.rules.proofs.Tests.{and_l, and_r, and_both, each, each_of, all-1, at_all}
use Rattle.notes.specs.Notes.{no_note, row}

-- ---- those that pass

module _ {A : Type 0} where
  keep_all : (p : A → Bool) (xs : List A) → every p xs ≡ true → keep p xs ≡ xs
  unfolding keep every pick
  keep_all p [] h = refl
  keep_all p (x ∷ xs) h = rw (and_l (p x) (every p xs) h) (ap (λ (ys : List A). x ∷ ys) (keep_all p xs (and_r (p x) (every p xs) h)))

  twice_step : (r : A → Bool) (x : A) (ys : List A) (b : Bool) → pick (b && r x) (x ∷ keep r ys) (keep r ys) ≡ keep r (pick b (x ∷ ys) ys)
  unfolding keep pick
  twice_step r x ys true = refl
  twice_step r x ys false = refl

  keep_twice : (p q r : A → Bool) → ((x : A) → p x ≡ (q x && r x)) → (xs : List A) → keep p xs ≡ keep r (keep q xs)
  unfolding keep
  keep_twice p q r h [] = refl
  keep_twice p q r h (x ∷ xs) = rw (h x, keep_twice p q r h xs) (twice_step r x (keep q xs) (q x))

  every_step : (p : A → Bool) (x : A) (ys : List A) (b : Bool) → p x ≡ true → every p ys ≡ true → every p (pick b (x ∷ ys) ys) ≡ true
  unfolding every pick
  every_step p x ys true h k = and_both (p x) (every p ys) h k
  every_step p x ys false h k = k

  every_keep : (p q : A → Bool) (xs : List A) → every p xs ≡ true → every p (keep q xs) ≡ true
  unfolding keep
  every_keep p q [] h = h
  every_keep p q (x ∷ xs) h =
      let k = each p (x ∷ xs) h in
      every_step p x (keep q xs) (q x) k.0 (every_keep p q xs (each_of p xs k.1))

-- ---- notes of no two transactions

-- another transaction's
abbrev apart : Note → Note → Bool
apart x y = not (eqb x.coordinator y.coordinator && eqb x.request y.request)

distinct_step : (x : Note) (ys : List Note) (b : Bool) → every (apart x) ys ≡ true → notes_distinct ys ≡ true → notes_distinct (pick b (x ∷ ys) ys) ≡ true
unfolding notes_distinct pick
distinct_step x ys true h k = and_both (every (apart x) ys) (notes_distinct ys) h k
distinct_step x ys false h k = k

distinct_keep : (q : Note → Bool) (xs : List Note) → notes_distinct xs ≡ true → notes_distinct (keep q xs) ≡ true
unfolding keep notes_distinct
distinct_keep q [] h = refl
distinct_keep q (x ∷ xs) h =
    distinct_step x (keep q xs) (q x)
    (every_keep (apart x) q xs (and_l (every (apart x) xs) (notes_distinct xs) h))
    (distinct_keep q xs (and_r (every (apart x) xs) (notes_distinct xs) h))

pub distinct_without : (gone : List Entry) (xs : List Note) → notes_distinct xs ≡ true → notes_distinct (notes_without gone xs) ≡ true
distinct_without gone xs h = distinct_keep (λ x. not (any (λ e. note_of e x) gone)) xs h

-- ---- one transaction after the other

pub without_none : (xs : List Note) → notes_without [] xs ≡ xs
unfolding any
without_none xs = keep_all (λ x. true) xs (each_of (λ x. true) xs (at_all (λ x. true ≡ true) no_note xs (λ i l. refl)))

pub without_cons : (e : Entry) (gone : List Entry) (xs : List Note) → notes_without (e ∷ gone) xs ≡ notes_without gone (notes_without (e ∷ []) xs)
unfolding any
without_cons e gone xs =
    keep_twice (λ x. not (any (λ d. note_of d x) (e ∷ gone))) (λ x. not (any (λ d. note_of d x) (e ∷ []))) (λ x. not (any (λ d. note_of d x) gone)) (λ x. go (note_of e x) (any (λ d. note_of d x) gone)) xs
  where
    go : (a b : Bool) → not (a || b) ≡ (not (a || false) && not b)
    go true b = refl
    go false b = refl

module _ (e : Entry) where
  -- one that was found is the only one
  alone : (x : Note) (xs : List Note) → note_of e x ≡ true → every (apart x) xs ≡ true → notes_without (e ∷ []) xs ≡ xs
  unfolding any
  alone x xs h k =
      let k1 : x.coordinator ≡ e.coordinator = eqb-true x.coordinator e.coordinator (and_l (eqb x.coordinator e.coordinator) (eqb x.request e.request) h) in
      let k2 : x.request ≡ e.request = eqb-true x.request e.request (and_r (eqb x.coordinator e.coordinator) (eqb x.request e.request) h) in
      let other : (y : Note) → apart x y ≡ true → not (note_of e y || false) ≡ true
      = λ y a. ap not (or-false (note_of e y) ∙ ap₂ ◌&&◌ (eqb_sym y.coordinator e.coordinator ∙ ap (λ (n : ℕ). eqb n y.coordinator) (sym k1)) (eqb_sym y.request e.request ∙ ap (λ (n : ℕ). eqb n y.request) (sym k2))) ∙ a in
      keep_all (λ y. not (note_of e y || false)) xs (each_of (λ y. not (note_of e y || false)) xs (all-1 other xs (each (apart x) xs k)))

  absent_step : (x : Note) (xs ys : List Note) (b : Bool) (r : ℕ) → (length xs ≤ r → ys ≡ xs) → suc (length xs) ≤ pick b 0 (suc r) → pick (not (b || false)) (x ∷ ys) ys ≡ x ∷ xs
  unfolding pick
  absent_step x xs ys true r f h = absurd (omega arith)
  absent_step x xs ys false r f h = ap (λ (zs : List Note). x ∷ zs) (f (omega arith))

  -- a transaction with no note
  pub without_absent : (xs : List Note) → length xs ≤ row e.request e.coordinator xs → notes_without (e ∷ []) xs ≡ xs
  unfolding row keep any
  without_absent [] h = refl
  without_absent (x ∷ xs) h = absent_step x xs (notes_without (e ∷ []) xs) (note_of e x) (row e.request e.coordinator xs) (without_absent xs) h

  found_step : (x : Note) (xs ys : List Note) (b : Bool) (r : ℕ) → (b ≡ true → ys ≡ xs) → (r < length xs → ys ≡ take r xs ++ drop (r + 1) xs) → pick b 0 (suc r) < suc (length xs)
      → pick (not (b || false)) (x ∷ ys) ys ≡ take (pick b 0 (suc r)) (x ∷ xs) ++ drop (pick b 0 (suc r) + 1) (x ∷ xs)
  unfolding pick
  found_step x xs ys true r f g h = f refl
  found_step x xs ys false r f g h =
      let n : suc r + 1 ≡ suc (r + 1) = omega arith in
      rw n (ap (λ (zs : List Note). x ∷ zs) (g (omega arith)))

  -- a transaction with a note
  pub without_found : (xs : List Note) → notes_distinct xs ≡ true → row e.request e.coordinator xs < length xs
      → notes_without (e ∷ []) xs ≡ take (row e.request e.coordinator xs) xs ++ drop (row e.request e.coordinator xs + 1) xs
  unfolding row keep any notes_distinct
  without_found [] d h = absurd (omega arith)
  without_found (x ∷ xs) d h =
      found_step x xs (notes_without (e ∷ []) xs) (note_of e x) (row e.request e.coordinator xs)
      (λ q. alone x xs q (and_l (every (apart x) xs) (notes_distinct xs) d))
      (without_found xs (and_r (every (apart x) xs) (notes_distinct xs) d))
      h
