-- Entries that stand in bytes and list transactions; which entries and notes stay beside them, and the slots by which they are found.
use Rattle.std.specs.Prelude.{ℕ, ◌+◌, ◌*◌, ◌≤◌, Bool, true, ◌&&◌, not, List, length}
use Rattle.octets.specs.Bytes.{items}
use Rattle.rules.specs.Choice.{any}
use Rattle.rules.specs.Entry.{before, among}
use Rattle.rules.specs.State.{Note, note_of}
use Rattle.rules.specs.Read.{entry_at}
use Rattle.rules.specs.declared.Entry.{Entry}
use Rattle.entries.specs.Rows.{Found}
use Rattle.early.specs.declared.Index.{Index}
use Rattle.early.specs.declared.Listed.{Listed}
use Rattle.early.specs.declared.Which.{Which}
use Rattle.early.specs.declared.Which.TheVariants.{Any, After, NotAfter}

-- the entries
abbrev pub listed_in : List ℕ → Listed → List Entry
listed_in b listed = items (entry_at b) 24 listed.at listed.count

-- the entries stand in the bytes, and are found by the slots
pub record Lookup (b : List ℕ) (listed : Listed) (slots : List ℕ) : Type 0 where
  pub inside : listed.at + 24 * listed.count ≤ length b
  pub few : listed.count ≤ 4096
  pub found : Found (listed_in b listed) slots

-- the same of the value that lends the bytes and the slots
abbrev pub indexed : Index → List Entry
indexed index = listed_in index.bytes.now index.listed

abbrev pub Ready : Index → Type 0
Ready index = Lookup index.bytes.now index.listed index.slots.now

-- an entry lies where those that are meant do
unfoldable pub placed : Which → Entry → Bool
placed Any e = true
placed (After last) e = before last e
placed (NotAfter last) e = not (before last e)

-- and is of no listed transaction
unfoldable pub chosen : List Entry → Which → Entry → Bool
chosen gone which e = placed which e && not (among gone e)

-- a note of no listed transaction
abbrev pub stays : List Entry → Note → Bool
stays gone x = not (any (λ e. note_of e x) gone)
