-- A table of entries in a slice, as a record of plain facts.
use Rattle.std.specs.Prelude.{ℕ, ◌+◌, ◌*◌, ◌≤◌, ◌≡◌, List, length}
use Rattle.octets.specs.Bytes.{num}
use Rattle.octets.proofs.Codecs.{All}
use Rattle.rules.specs.Image.{table_bytes, table_at}
use Rattle.rules.specs.declared.Entry.{Entry}
use Rattle.rules.proofs.Entries.{EntryFits}

-- the bytes t are a table with room for c entries that holds es. The last two follow from the others; they are here so that they are found
pub record Holds (c : ℕ) (es : List Entry) (t : List ℕ) : Type 0 where
  pub bytes : t ≡ table_bytes c es
  pub room : length es ≤ c
  pub small : c ≤ 4096
  pub fit : All EntryFits es
  pub size : length t ≡ 4 + 24 * c
  pub count : num t 0 4 ≡ length es

-- the bytes are a table
abbrev pub Table : ℕ → List ℕ → Type 0
Table c t = Holds c (table_at c t 0) t
