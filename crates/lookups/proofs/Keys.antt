-- The transactions of notes as keys in their bytes: the row of a transaction is the row of its key. Assumes nothing.
use Prim.Native.Nat.{ℕ, zero, suc, ◌+◌, ◌*◌, ◌≤◌, ◌<◌}
use mathlib.Core.Path.{◌≡◌, refl, sym, ap, ap₂, ◌∙◌}
use mathlib.Core.Bool.{Bool, true, false}
use mathlib.Core.List.{List, [], ◌∷◌}
use native.Mathlib.Omega.{arith}
use native.Mathlib.Nat.{mul-le-mul_left}
use lib.ListN.{length}
use lib.Dec.{eqb}
use Rattle.octets.specs.Bytes.{num}
use Rattle.octets.proofs.Laws.{num_add}
use Rattle.rules.specs.Choice.{pick}
use Rattle.rules.specs.State.{Note}
use Rattle.rules.specs.Image.{note_length, note_at}
use Rattle.rules.specs.declared.Entry.{Entry}
use Rattle.rules.proofs.Tests.{all_at}
use Rattle.rules.proofs.Tables.{NoteFits}
use Rattle.repeats.specs.Repeat.{row_of}
use Rattle.repeats.specs.Rows.{count_of, key_of, spot_of, Inside}
use Rattle.rows.specs.Slots.{Indexed}
use Rattle.repeats.specs.declared.Spots.{Spots}
use Rattle.repeats.proofs.Laws.{First, first_is, first_agree}
use Rattle.repeats.proofs.Places.{spot_first}
use Rattle.entries.proofs.Keys.{Keyed, key_is}
use Rattle.notes.specs.Notes.{no_note, note_in, is_of, row, notes_at, Notes}
use Rattle.notes.proofs.Notes.{note_in_lem}
use Rattle.lookups.specs.Rows.{note_spots, NoteRows}

-- ---- the row of a transaction as the first of the rows that pass

module _ (request coordinator : ℕ) where
  -- the note at a place is of the transaction
  abbrev hit : List Note → ℕ → Bool
  hit xs i = is_of request coordinator (note_in xs i)

  row_step : (x : Note) (xs : List Note) (b : Bool) (r : ℕ) → is_of request coordinator x ≡ b → First (hit xs) (length xs) r → First (hit (x ∷ xs)) (suc (length xs)) (pick b 0 (suc r))
  unfolding pick
  row_step x xs true r e w = record { low = omega arith; before = λ i k. absurd (omega arith); at = λ k. e }
  row_step x xs false r e w = record { low = omega (arith, w.low); before = before; at = λ k. w.at (omega arith) }
    where
      before : (i : ℕ) → i < suc r → hit (x ∷ xs) i ≡ false
      before zero k = e
      before (suc i) k = w.before i (omega arith)

  row_first : (xs : List Note) → First (hit xs) (length xs) (row request coordinator xs)
  unfolding row
  row_first [] = record { low = omega arith; before = λ i k. absurd (omega arith); at = λ k. absurd (omega arith) }
  row_first (x ∷ xs) = row_step x xs (is_of request coordinator x) (row request coordinator xs) refl (row_first xs)

-- ---- the key of a note

-- a note's transaction, as an entry has it
abbrev pub as_entry : Note → Entry
as_entry x = record { stamp = 0; command = 0; request = x.request; coordinator = x.coordinator; mask = 0 }

module _ (c s : ℕ) (t : List ℕ) (h : Notes c s t) where
  abbrev kept : List Note
  kept = notes_at c s t

  abbrev spots : Spots
  spots = note_spots s (length kept)

  -- its request and coordinator are the key
  pub note_keyed : (i : ℕ) → i < length kept → Keyed (key_of t spots i) (as_entry (note_in kept i))
  unfolding key_of note_at
  note_keyed i l =
      let a : ℕ = 4 + note_length s * i in
      let e : a ≡ spot_of spots i = spot_first spots i l in
      let q : note_at s t a ≡ note_in kept i = note_in_lem c s kept t h i l in
      let r : num t a 4 ≡ (note_in kept i).request = ap (λ (x : Note). x.request) q in
      let k : num t (a + 4) 2 ≡ (note_in kept i).coordinator = ap (λ (x : Note). x.coordinator) q in
      let n : num t a 6 ≡ num t a 4 + num t (a + 4) 2 * 4294967296 = num_add t a 4 2 in
      record {
        is = ap (λ (x : ℕ). num t x 6) (sym e) ∙ n ∙ ap₂ (λ (x y : ℕ). x + y * 4294967296) r k;
        low = (all_at (NoteFits s) no_note kept h.fit i l).request;
      }

  -- the keys lie inside the bytes
  pub keys_inside : Inside t spots
  keys_inside =
      let w : note_length s * length kept ≤ note_length s * c = mul-le-mul_left (note_length s) h.room in
      record { one = omega (arith, h.size); two = omega arith; three = omega arith; few = omega (arith, h.small, h.room) }

  -- how the functions count them
  spots_are : (n : ℕ) (sp : Spots) → n ≡ num t 0 4 → sp ≡ note_spots s n → sp ≡ spots
  spots_are n sp e q = q ∙ ap (note_spots s) (e ∙ h.count)

  pub asked : (n : ℕ) (sp : Spots) → n ≡ num t 0 4 → sp ≡ note_spots s n → Inside t sp
  asked n sp e q = rw (spots_are n sp e q) keys_inside

  pub rows_asked : (n : ℕ) (sp : Spots) (slots : List ℕ) → n ≡ num t 0 4 → sp ≡ note_spots s n → NoteRows c s t slots → Inside t sp × Indexed (key_of t sp) (count_of sp) slots
  rows_asked n sp slots e q w = rw (spots_are n sp e q) (keys_inside, w.indexed)

  pub rows_known : (n : ℕ) (sp : Spots) (slots : List ℕ) → n ≡ num t 0 4 → sp ≡ note_spots s n → Indexed (key_of t sp) (count_of sp) slots → NoteRows c s t slots
  rows_known n sp slots e q w = record { indexed = rw (spots_are n sp e q) at w }

  -- the row of a key is that of its transaction
  pub row_by_key : (n : ℕ) (sp : Spots) (request coordinator r : ℕ) → n ≡ num t 0 4 → sp ≡ note_spots s n → request < 4294967296 → r ≡ row_of (key_of t sp) (request + coordinator * 4294967296) (count_of sp) → r ≡ row request coordinator kept
  unfolding row_of
  row_by_key n sp request coordinator r e q l f =
      let x : ℕ = request + coordinator * 4294967296 in
      let m : count_of spots ≡ length kept = omega arith in
      let like : Entry = record { stamp = 0; command = 0; request = request; coordinator = coordinator; mask = 0 } in
      f
      ∙ ap (λ (y : Spots). row_of (key_of t y) x (count_of y)) (spots_are n sp e q)
      ∙ ap (row_of (key_of t spots) x) m
      ∙ first_agree (λ i. eqb (key_of t spots i) x) (hit request coordinator kept) (length kept)
      (λ i k. key_is (key_of t spots i) x (as_entry (note_in kept i)) like (note_keyed i k) (record { is = refl; low = l }))
      ∙ first_is (hit request coordinator kept) (length kept) (row request coordinator kept) (row_first request coordinator kept)
