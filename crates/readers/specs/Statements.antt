-- The statements of the readers, as predicates over what is given and the answer r. Each `ensures` is its predicate, here and in `replica`, and proofs/Promises shows
-- that two answers that satisfy it are one.
use Rattle.std.specs.Prelude.{ℕ, ◌≡◌, List}
use Rattle.rules.specs.declared.Shape.{Shape}
use Rattle.readers.specs.Said.{next_length, field_in, group_view_in, entry_in}

-- message_length
abbrev pub MeasuresFirst : (n s : ℕ) (b : List ℕ) → (r : ℕ) → Type 0
MeasuresFirst n s b r = r ≡ next_length n s b

-- field
abbrev pub TellsField : Shape → (field : ℕ) (b : List ℕ) → (r : ℕ) → Type 0
TellsField shape field b r = r ≡ field_in shape b field

-- group_view
abbrev pub TellsView : Shape → (group : ℕ) (b : List ℕ) → (r : ℕ) → Type 0
TellsView shape group b r = r ≡ group_view_in shape b group

-- entry
abbrev pub TellsEntry : Shape → (position field : ℕ) (b : List ℕ) → (r : ℕ) → Type 0
TellsEntry shape position field b r = r ≡ entry_in shape b position field
