-- Entries in a row of bytes that each fit after the one before it, as a list that does. Assumes nothing.
use Prim.Native.Nat.{ℕ, zero, suc}
use mathlib.Core.Path.{◌≡◌, refl, sym, ap, ap₂, ◌∙◌}
use mathlib.Core.Bool.{Bool, ◌&&◌, and_assoc, and-true}
use mathlib.Core.List.{List, [], ◌∷◌, ◌++◌}
use native.Mathlib.Omega.{arith}
use lib.ListN.{length}
use lib.Dec.{eqb}
use Rattle.octets.specs.Bytes.{items}
use Rattle.octets.proofs.Codecs.{length_items, get_or_items}
use Rattle.rules.specs.Entry.{no_entry, entry_of}
use Rattle.rules.specs.Read.{entry_at}
use Rattle.rules.specs.declared.Entry.{Entry}
use Rattle.repeats.specs.Repeat.{first_to}
use Rattle.logs.specs.Place.{row_at, fits, fit_from, last_from, unfit_from}
use Rattle.logs.proofs.Every.{none_next}
use Rattle.logs.proofs.Place.{not_not}

last_cons : (x : Entry) (xs : List Entry) → last_from x (entry_of xs) (length xs) ≡ entry_of (x ∷ xs) (length xs)
unfolding last_from
last_cons x [] = refl
last_cons x (y ∷ ys) = refl

module _ (s k : ℕ) where
  -- one entry more
  fit_more : (d : Entry) (xs : List Entry) (e : Entry) → fit_from s k d (xs ++ (e ∷ [])) ≡ (fit_from s k d xs && fits s k k (last_from d (entry_of xs) (length xs)) e)
  unfolding fit_from last_from
  fit_more d [] e = and-true (fits s k k d e)
  fit_more d (x ∷ xs) e =
      ap (λ (t : Bool). fits s k k d x && t) (fit_more x xs e ∙ ap (λ (y : Entry). fit_from s k x xs && fits s k k y e) (last_cons x xs))
      ∙ sym (and_assoc (fits s k k d x) (fit_from s k x xs) (fits s k k (entry_of (x ∷ xs) (length xs)) e))

  module _ (d : Entry) (b : List ℕ) (at : ℕ) where
    -- the last of the list is the last of the row
    last_row : (n : ℕ) → last_from d (entry_of (items (entry_at b) 24 at n)) n ≡ last_from d (row_at b at) n
    unfolding last_from
    last_row zero = refl
    last_row (suc n) = get_or_items (entry_at b) 24 at (suc n) n no_entry (omega arith)

    pub fit_rows : (n : ℕ) → eqb (first_to (unfit_from s k k d (row_at b at)) n) n ≡ fit_from s k d (items (entry_at b) 24 at n)
    unfolding first_to items fit_from
    fit_rows zero = refl
    fit_rows (suc n) =
        let last : last_from d (entry_of (items (entry_at b) 24 at n)) (length (items (entry_at b) 24 at n)) ≡ last_from d (row_at b at) n
        = ap (last_from d (entry_of (items (entry_at b) 24 at n))) (length_items (entry_at b) 24 at n) ∙ last_row n in
        none_next (unfit_from s k k d (row_at b at)) n
        ∙ ap₂ ◌&&◌ (fit_rows n) (not_not (fits s k k (last_from d (row_at b at) n) (row_at b at n)))
        ∙ sym (fit_more d (items (entry_at b) 24 at n) (row_at b at n) ∙ ap (λ (y : Entry). fit_from s k d (items (entry_at b) 24 at n) && fits s k k y (row_at b at n)) last)

  pub rises_is : (d : Entry) (b : List ℕ) (at n r : ℕ) → r ≡ first_to (unfit_from s k k d (row_at b at)) n → eqb r n ≡ fit_from s k d (items (entry_at b) 24 at n)
  rises_is d b at n r e = ap (λ (x : ℕ). eqb x n) e ∙ fit_rows d b at n
