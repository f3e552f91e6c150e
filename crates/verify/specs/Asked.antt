-- The entries of a table, as they are lent, and those of them that are asked for.
use Rattle.std.specs.Prelude.{ℕ, ◌*◌, ◌/◌, Bool, ◌&&◌, List, length, leb}
use Rattle.octets.specs.Bytes.{num, part, items}
use Rattle.rules.specs.Choice.{keep}
use Rattle.rules.specs.Group.{holds}
use Rattle.rules.specs.Entry.{ordered}
use Rattle.rules.specs.Read.{entry_at}
use Rattle.rules.specs.declared.Entry.{Entry}

-- an entry at the boundary or past it whose mask has the asker's group
abbrev pub is_asked : ℕ → ℕ → Entry → Bool
is_asked boundary j e = leb boundary e.stamp && holds e.mask j

-- the bytes of the entries that a table has
unfoldable pub used_in : List ℕ → List ℕ
used_in t = part t 4 (24 * num t 0 4)

-- of the first n entries in bytes: those that are asked for
unfoldable pub asked_to : ℕ → ℕ → List ℕ → ℕ → List Entry
asked_to boundary j t n = keep (is_asked boundary j) (items (entry_at t) 24 0 n)

-- of all of them
abbrev pub asked_in : ℕ → ℕ → List ℕ → List Entry
asked_in boundary j t = asked_to boundary j t (length t / 24)

-- and these in the order
abbrev pub told_in : ℕ → ℕ → List ℕ → List Entry
told_in boundary j t = ordered (asked_in boundary j t)
