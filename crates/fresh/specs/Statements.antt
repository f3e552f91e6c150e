-- The statements of the start and of the state's length, as predicates over what is given and what is left.
use Rattle.std.specs.Prelude.{ℕ, ◌≡◌, List, []}
use Rattle.rules.specs.Bytes.{left, start_bytes}
use Rattle.rules.specs.Refusals.{Answer}
use Rattle.rules.specs.declared.Shape.{Shape}
use Rattle.places.specs.Layout.{length_for}

-- start: of the memory b are left the answer a and the memory b'
abbrev pub Starts : Shape → (group replica : ℕ) (b : List ℕ) → (a : Answer) (b' : List ℕ) → Type 0
Starts shape group replica b a b' = left a b' [] ≡ start_bytes shape group replica b

-- state_length
abbrev pub Measures : Shape → (r : ℕ) → Type 0
Measures shape r = r ≡ length_for shape
