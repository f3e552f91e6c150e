-- The rows of entries by transaction: where the transactions stand in bytes, and slots by which rows are found.
use Rattle.std.specs.Prelude.{ℕ, ◌+◌, ◌*◌, List, length}
use Rattle.rules.specs.Entry.{entry_of}
use Rattle.rules.specs.declared.Entry.{Entry}
use Rattle.rows.specs.Slots.{Indexed}
use Rattle.repeats.specs.declared.Spots.{Spots}

-- where the transactions of n entries from `at` on stand
abbrev pub entry_spots : ℕ → ℕ → Spots
entry_spots at n = record { first = record { at = at + 16; count = n }; second = record { at = 0; count = 0 }; third = record { at = 0; count = 0 }; stride = 24 }

-- the transaction of entry i, as one number
unfoldable pub key_in : List Entry → ℕ → ℕ
key_in es i = (entry_of es i).request + (entry_of es i).coordinator * 4294967296

-- the first n of these entries are found by the slots
abbrev pub FoundTo : List Entry → ℕ → List ℕ → Type 0
FoundTo es n slots = Indexed (key_in es) n slots

-- all of them are
abbrev pub Found : List Entry → List ℕ → Type 0
Found es slots = FoundTo es (length es) slots
