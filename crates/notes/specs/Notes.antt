-- The notes in a slice, as a record of plain facts; the row of a transaction's note; what a point says.
use Rattle.std.specs.Prelude as rust
use Rattle.std.specs.Prelude.{ℕ, suc, ◌+◌, ◌*◌, ◌≤◌, min, ◌≡◌, Bool, ◌&&◌, List, [], ◌∷◌, length, get_or, replicate, eqb, Some, None}
use Rattle.std.proofs.Math.Option.{Option, none, some}
use Rattle.octets.specs.Bytes.{num, items}
use Rattle.octets.proofs.Codecs.{All}
use Rattle.rules.specs.Choice.{pick}
use Rattle.rules.specs.State.{Note}
use Rattle.rules.specs.Image.{note_length, notes_section, note_at}
use Rattle.rules.specs.declared.Shape.{Shape}
use Rattle.rules.proofs.Tables.{NoteFits}

-- room for c notes of s groups. How many replicas a group has plays no part in the notes
abbrev pub sized : ℕ → ℕ → Shape
sized c s = record { n = 0; s = s; c = c }

-- the notes that are read from t
unfoldable pub notes_at : ℕ → ℕ → List ℕ → List Note
notes_at c s t = items (note_at s t) (note_length s) 4 (min (num t 0 4) c)

-- what stands past the end of a list
abbrev pub no_note : Note
no_note = record { request = 0; coordinator = 0; stamps = [] }

-- note i of a list
abbrev pub note_in : List Note → ℕ → Note
note_in xs i = get_or xs i no_note

-- the note of a transaction of which no group was heard
abbrev pub unheard_note : ℕ → ℕ → ℕ → Note
unheard_note s request coordinator = record { request = request; coordinator = coordinator; stamps = replicate s none }

-- the note is of the transaction of this request and coordinator
abbrev pub is_of : ℕ → ℕ → Note → Bool
is_of request coordinator x = eqb x.coordinator coordinator && eqb x.request request

-- the first note of a transaction, the number of notes where none is
unfoldable pub row : ℕ → ℕ → List Note → ℕ
row request coordinator [] = 0
row request coordinator (x ∷ xs) = pick (is_of request coordinator x) 0 (suc (row request coordinator xs))

-- what a point says, where the code has Rust's Option: a timestamp, or the mark "not heard"
abbrev pub said : rust.Option ℕ → Option ℕ
said None = none
said (Some t) = some t

-- the bytes t, with room for c notes of s groups, hold xs. The last two follow from the others; they are here so that they are found
pub record NotesHold (c s : ℕ) (xs : List Note) (t : List ℕ) : Type 0 where
  pub bytes : t ≡ notes_section (sized c s) xs
  pub room : length xs ≤ c
  pub small : c ≤ 4096
  pub groups : s ≤ 8
  pub fit : All (NoteFits s) xs
  pub size : length t ≡ 4 + note_length s * c
  pub count : num t 0 4 ≡ length xs

-- the bytes hold notes
abbrev pub Notes : ℕ → ℕ → List ℕ → Type 0
Notes c s t = NotesHold c s (notes_at c s t) t
