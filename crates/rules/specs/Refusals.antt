-- The refusals of a step or of a message, by their numbers in the table.
use Rattle.std.specs.Prelude.{ℕ, Result}
use Rattle.rules.specs.declared.refusals.Refusal.{Refusal}
use Rattle.rules.specs.declared.refusals.Refusal.TheVariants.{WrongState, Malformed, NotAddressedHere, WrongView, WrongStatus, WrongRole, NothingToDo, Full, NoRoom}

-- a refusal's number
abbrev pub number_of : Refusal → ℕ
number_of WrongState = 1
number_of (Malformed at) = 2
number_of NotAddressedHere = 3
number_of WrongView = 4
number_of WrongStatus = 5
number_of WrongRole = 6
number_of NothingToDo = 7
number_of Full = 8
number_of NoRoom = 9

-- the offset that goes with it: of the first wrong field with 2, else 0
abbrev pub offset_of : Refusal → ℕ
offset_of WrongState = 0
offset_of (Malformed at) = at
offset_of NotAddressedHere = 0
offset_of WrongView = 0
offset_of WrongStatus = 0
offset_of WrongRole = 0
offset_of NothingToDo = 0
offset_of Full = 0
offset_of NoRoom = 0

-- an answer: how many bytes were written, or why it is refused
abbrev pub Answer : Type 0
Answer = Result ℕ Refusal
