-- What is told of entries taken into a table.
use Rattle.std.specs.Prelude.{ℕ, ◌<◌, ◌≡◌, Bool, true, false, List, length}
use Rattle.entries.specs.Rows.{Found}
use Rattle.entries.specs.Table.{Holds}
use Rattle.rules.specs.declared.Entry.{Entry}

-- true where the bytes t are a table of c places that holds es, false where es are more than it has places
pub record Taken (c : ℕ) (es : List Entry) (r : Bool) (t : List ℕ) : Type 0 where
  pub held : r ≡ true → Holds c es t
  pub full : r ≡ false → c < length es

-- and where they are held, the slots find each by its transaction
pub record Took (c : ℕ) (es : List Entry) (r : Bool) (t slots : List ℕ) : Type 0 where
  pub taken : Taken c es r t
  pub found : r ≡ true → Found es slots
