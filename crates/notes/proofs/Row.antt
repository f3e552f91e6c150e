-- The row of a transaction among the notes, and what it tells of them. Assumes nothing.
use Prim.Native.Nat.{ℕ, suc, ◌+◌, ◌≤◌, ◌<◌, max}
use mathlib.Core.Path.{◌≡◌, refl, sym, ap, ◌∙◌}
use mathlib.Core.Bool.{Bool, true, false}
use mathlib.Core.Option.{Option}
use mathlib.Core.List.{List, [], ◌∷◌, ◌++◌}
use native.Mathlib.Omega.{arith}
use native.Mathlib.Nat.{zero-add}
use native.Mathlib.Numerals.{add-one}
use lib.ListN.{length, drop, set, drop_of_length-le}
use lib.Seq.{drop-cons, set-append_seam, get_or-append_seam}
use Rattle.rules.specs.Choice.{pick}
use Rattle.rules.specs.State.{Note, note_of, stamps_of}
use Rattle.rules.specs.Early.{new_note, heard_note, keep_note}
use Rattle.rules.specs.declared.Entry.{Entry}
use Rattle.rules.specs.declared.Shape.{Shape}
use Rattle.rules.proofs.Tests.{pick_true, pick_false}
use Rattle.notes.specs.Notes.{sized, no_note, note_in, unheard_note, is_of, row}

-- ---- the search: the whole question is that of what is left

module _ (request coordinator : ℕ) (xs : List Note) where
  pub row_start : row request coordinator xs ≡ 0 + row request coordinator (drop 0 xs)
  row_start = sym (zero-add (row request coordinator xs))

  -- what is left begins with note i
  left : (i : ℕ) → i < length xs → row request coordinator (drop i xs) ≡ pick (is_of request coordinator (note_in xs i)) 0 (suc (row request coordinator (drop (i + 1) xs)))
  unfolding row
  left i h = rw add-one (ap (row request coordinator) (drop-cons xs i no_note h))

  pub row_pass : (i : ℕ) → i < length xs → is_of request coordinator (note_in xs i) ≡ false → row request coordinator xs ≡ i + row request coordinator (drop i xs) → row request coordinator xs ≡ i + 1 + row request coordinator (drop (i + 1) xs)
  row_pass i h q e = omega (arith, left i h ∙ pick_false (is_of request coordinator (note_in xs i)) 0 (suc (row request coordinator (drop (i + 1) xs))) q)

  pub row_stop : (i : ℕ) → i < length xs → is_of request coordinator (note_in xs i) ≡ true → row request coordinator xs ≡ i + row request coordinator (drop i xs) → i ≡ row request coordinator xs
  row_stop i h q e = omega (arith, left i h ∙ pick_true (is_of request coordinator (note_in xs i)) 0 (suc (row request coordinator (drop (i + 1) xs))) q)

  pub row_end : (i n : ℕ) → n ≡ length xs → i ≤ n → n ≤ i → row request coordinator xs ≡ i + row request coordinator (drop i xs) → n ≡ row request coordinator xs
  unfolding row
  row_end i n l a b e =
      let z : row request coordinator (drop i xs) ≡ 0 = ap (row request coordinator) (drop_of_length-le xs {i = i} (omega arith)) in
      omega arith

-- ---- what stands in the row

pub row_within : (request coordinator : ℕ) (xs : List Note) → row request coordinator xs ≤ length xs
unfolding row
row_within request coordinator [] = omega arith
row_within request coordinator (x ∷ xs) = step (is_of request coordinator x) (row request coordinator xs) (row_within request coordinator xs)
  where
    step : (b : Bool) (r : ℕ) → r ≤ length xs → pick b 0 (suc r) ≤ suc (length xs)
    step true r h = rw (pick_true true 0 (suc r) refl) (omega arith)
    step false r h = rw (pick_false false 0 (suc r) refl) (omega arith)

-- one step of each law over the list, by whether its first note is of the transaction
module _ (x : Note) (xs : List Note) where
  step_stamps : (b : Bool) (r : ℕ) (ts : List (Option ℕ)) → (r < length xs → ts ≡ (note_in xs r).stamps) → pick b 0 (suc r) < suc (length xs) → pick b x.stamps ts ≡ (note_in (x ∷ xs) (pick b 0 (suc r))).stamps
  unfolding pick
  step_stamps true r ts f h = refl
  step_stamps false r ts f h = f (omega arith)

  step_none : (b : Bool) (r : ℕ) (ts : List (Option ℕ)) → (length xs ≤ r → ts ≡ []) → suc (length xs) ≤ pick b 0 (suc r) → pick b x.stamps ts ≡ []
  unfolding pick
  step_none true r ts f h = absurd (omega arith)
  step_none false r ts f h = f (omega arith)

  step_kept : (b : Bool) (r j t : ℕ) (ys : List Note) → (r < length xs → ys ≡ set xs r (heard_note (note_in xs r) j t)) → pick b 0 (suc r) < suc (length xs)
      → pick b (heard_note x j t ∷ xs) (x ∷ ys) ≡ set (x ∷ xs) (pick b 0 (suc r)) (heard_note (note_in (x ∷ xs) (pick b 0 (suc r))) j t)
  unfolding pick
  step_kept true r j t ys f h = refl
  step_kept false r j t ys f h = ap (λ (zs : List Note). x ∷ zs) (f (omega arith))

  step_new : (b : Bool) (r : ℕ) (y z : Note) (ys : List Note) → (length xs ≤ r → ys ≡ xs ++ (z ∷ [])) → suc (length xs) ≤ pick b 0 (suc r) → pick b (y ∷ xs) (x ∷ ys) ≡ (x ∷ xs) ++ (z ∷ [])
  unfolding pick
  step_new true r y z ys f h = absurd (omega arith)
  step_new false r y z ys f h = ap (λ (zs : List Note). x ∷ zs) (f (omega arith))

  step_length : (b : Bool) (r : ℕ) (y : Note) (ys : List Note) → length ys ≡ max (length xs) (r + 1) → length (pick b (y ∷ xs) (x ∷ ys)) ≡ max (suc (length xs)) (pick b 0 (suc r) + 1)
  unfolding pick
  step_length true r y ys e = omega arith
  step_length false r y ys e = omega arith

module _ (e : Entry) where
  pub stamps_found : (xs : List Note) → row e.request e.coordinator xs < length xs → stamps_of xs e ≡ (note_in xs (row e.request e.coordinator xs)).stamps
  unfolding row stamps_of
  stamps_found [] h = absurd (omega arith)
  stamps_found (x ∷ xs) h = step_stamps x xs (note_of e x) (row e.request e.coordinator xs) (stamps_of xs e) (stamps_found xs) h

  pub stamps_none : (xs : List Note) → length xs ≤ row e.request e.coordinator xs → stamps_of xs e ≡ []
  unfolding row stamps_of
  stamps_none [] h = refl
  stamps_none (x ∷ xs) h = step_none x xs (note_of e x) (row e.request e.coordinator xs) (stamps_of xs e) (stamps_none xs) h

  module _ (sh : Shape) (j t : ℕ) where
    pub kept_found : (xs : List Note) → row e.request e.coordinator xs < length xs
        → keep_note sh e j t xs ≡ set xs (row e.request e.coordinator xs) (heard_note (note_in xs (row e.request e.coordinator xs)) j t)
    unfolding row keep_note
    kept_found [] h = absurd (omega arith)
    kept_found (x ∷ xs) h = step_kept x xs (note_of e x) (row e.request e.coordinator xs) j t (keep_note sh e j t xs) (kept_found xs) h

    pub kept_new : (xs : List Note) → length xs ≤ row e.request e.coordinator xs → keep_note sh e j t xs ≡ xs ++ (new_note sh e j t ∷ [])
    unfolding row keep_note
    kept_new [] h = refl
    kept_new (x ∷ xs) h = step_new x xs (note_of e x) (row e.request e.coordinator xs) (heard_note x j t) (new_note sh e j t) (keep_note sh e j t xs) (kept_new xs) h

    -- how many notes there are then: one more where the transaction had none
    pub length_kept : (xs : List Note) → length (keep_note sh e j t xs) ≡ max (length xs) (row e.request e.coordinator xs + 1)
    unfolding row keep_note
    length_kept [] = refl
    length_kept (x ∷ xs) = step_length x xs (note_of e x) (row e.request e.coordinator xs) (heard_note x j t) (keep_note sh e j t xs) (length_kept xs)

    -- only the number of groups matters
    pub kept_sized : (c : ℕ) (xs : List Note) → keep_note sh e j t xs ≡ keep_note (sized c sh.s) e j t xs
    unfolding keep_note
    kept_sized c [] = refl
    kept_sized c (x ∷ xs) = ap (λ (ys : List Note). pick (note_of e x) (heard_note x j t ∷ xs) (x ∷ ys)) (kept_sized c xs)

-- a new note that is written at once is one that was heard
pub heard_last : (c s : ℕ) (e : Entry) (j t i : ℕ) (xs : List Note) → i ≡ length xs
    → set (xs ++ (unheard_note s e.request e.coordinator ∷ [])) i (heard_note (note_in (xs ++ (unheard_note s e.request e.coordinator ∷ [])) i) j t) ≡ xs ++ (new_note (sized c s) e j t ∷ [])
heard_last c s e j t i xs q =
    let u : Note = unheard_note s e.request e.coordinator in
    rw (q, get_or-append_seam xs u [] no_note) (set-append_seam xs u [] (heard_note u j t))

-- a question about the timestamps of a transaction, asked of its note
module _ {A : Type 0} (op : List (Option ℕ) → A) (e : Entry) (xs : List Note) (i : ℕ) (q : i ≡ row e.request e.coordinator xs) (r : A) where
  pub ask_found : i < length xs → r ≡ op (note_in xs i).stamps → r ≡ op (stamps_of xs e)
  ask_found h k =
      let l : row e.request e.coordinator xs < length xs = omega arith in
      k ∙ ap (λ (n : ℕ). op (note_in xs n).stamps) q ∙ ap op (sym (stamps_found e xs l))

  pub ask_none : length xs ≤ i → r ≡ op [] → r ≡ op (stamps_of xs e)
  ask_none h k =
      let l : length xs ≤ row e.request e.coordinator xs = omega arith in
      k ∙ ap op (sym (stamps_none e xs l))
