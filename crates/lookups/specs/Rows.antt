-- Where the transactions of notes stand in their bytes, and the slots that have their rows.
use Rattle.std.specs.Prelude.{ℕ, ◌+◌, ◌*◌, List, length}
use Rattle.repeats.specs.Rows.{count_of, key_of}
use Rattle.rows.specs.Slots.{Indexed}
use Rattle.repeats.specs.declared.Spots.{Spots}
use Rattle.notes.specs.Notes.{notes_at}

-- where the keys of n notes of s groups stand
abbrev pub note_spots : ℕ → ℕ → Spots
note_spots s n = record { first = record { at = 4; count = n }; second = record { at = 0; count = 0 }; third = record { at = 0; count = 0 }; stride = 6 + 9 * s }

-- the slots have the row of every note for its transaction
pub record NoteRows (c s : ℕ) (t slots : List ℕ) : Type 0 where
  pub indexed : Indexed (key_of t (note_spots s (length (notes_at c s t)))) (count_of (note_spots s (length (notes_at c s t)))) slots
