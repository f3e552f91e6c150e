-- No two notes are of one transaction where no key repeats an earlier one. Assumes nothing.
use Prim.Native.Nat.{ℕ}
use mathlib.Core.Path.{◌≡◌, refl, sym, ap, ap₂, ◌∙◌}
use mathlib.Core.Bool.{Bool, true, false, ◌&&◌, ◌||◌, not}
use mathlib.Core.List.{List, [], ◌∷◌, map}
use native.Mathlib.Omega.{arith}
use lib.ListN.{length, length-map, get_or-map}
use lib.Dec.{eqb}
use Rattle.octets.specs.Bytes.{num}
use Rattle.rules.specs.Choice.{any, every}
use Rattle.rules.specs.Entry.{same_txn, among}
use Rattle.rules.specs.Log.{distinct}
use Rattle.rules.specs.State.{Note, notes_distinct}
use Rattle.rules.specs.declared.Entry.{Entry}
use Rattle.repeats.specs.Repeat.{repeat_place}
use Rattle.repeats.specs.Rows.{count_of, key_of}
use Rattle.repeats.specs.declared.Spots.{Spots}
use Rattle.logs.proofs.Apart.{KeysOf, distinct_is}
use Rattle.notes.specs.Notes.{no_note, notes_at, Notes}
use Rattle.lookups.specs.Rows.{note_spots}
use Rattle.lookups.proofs.Keys.{as_entry, note_keyed}

not_or : (a b : Bool) → not (a || b) ≡ (not a && not b)
not_or true b = refl
not_or false b = refl

none_among : (e : Entry) (xs : List Note) → not (among (map as_entry xs) e) ≡ every (λ y. not (eqb e.coordinator y.coordinator && eqb e.request y.request)) xs
unfolding any every
none_among e [] = refl
none_among e (x ∷ xs) = not_or (same_txn e (as_entry x)) (among (map as_entry xs) e) ∙ ap (λ (t : Bool). not (same_txn e (as_entry x)) && t) (none_among e xs)

apart_is : (xs : List Note) → distinct (map as_entry xs) ≡ notes_distinct xs
unfolding distinct notes_distinct
apart_is [] = refl
apart_is (x ∷ xs) = ap₂ ◌&&◌ (none_among (as_entry x) xs) (apart_is xs)

module _ (c s : ℕ) (t : List ℕ) (h : Notes c s t) where
  abbrev kept : List Note
  kept = notes_at c s t

  abbrev noted_keys : ℕ → ℕ
  noted_keys = key_of t (note_spots s (length kept))

  keys : KeysOf noted_keys (map as_entry kept)
  keys i l =
      let p : length (map as_entry kept) ≡ length kept = length-map kept as_entry in
      rw (get_or-map as_entry kept i no_note) (note_keyed c s t h i (omega arith))

  keys_many : count_of (note_spots s (length kept)) ≡ length (map as_entry kept)
  keys_many = let p : length (map as_entry kept) ≡ length kept = length-map kept as_entry in omega arith

  -- no key of a note repeats an earlier one
  pub notes_apart : (n r : ℕ) (sp : Spots) → n ≡ num t 0 4 → sp ≡ note_spots s n → r ≡ repeat_place (key_of t sp) (count_of sp) → eqb r n ≡ notes_distinct kept
  notes_apart n r sp e q f =
      let m : n ≡ length kept = e ∙ h.count in
      ap₂ eqb (f ∙ ap (λ (x : Spots). repeat_place (key_of t x) (count_of x)) (q ∙ ap (note_spots s) m) ∙ ap (repeat_place noted_keys) keys_many) (m ∙ sym (length-map kept as_entry))
      ∙ distinct_is (map as_entry kept) noted_keys keys
      ∙ apart_is kept
