-- Early and late beside each other in one slice, as a record of plain facts.
use Rattle.std.specs.Prelude.{ℕ, ◌+◌, ◌*◌, ◌≡◌, List, length, take, drop}
use Rattle.rules.specs.Image.{table_at}
use Rattle.rules.specs.declared.Entry.{Entry}
use Rattle.entries.specs.Table.{Holds}

-- the first half of t is a table of es, the second a table of ls
pub record BothHold (c : ℕ) (es ls : List Entry) (t : List ℕ) : Type 0 where
  pub early : Holds c es (take (4 + 24 * c) t)
  pub late : Holds c ls (drop (4 + 24 * c) t)
  pub size : length t ≡ 4 + 24 * c + (4 + 24 * c)

-- the early entries in it, and the late
abbrev pub early_in : ℕ → List ℕ → List Entry
early_in c t = table_at c (take (4 + 24 * c) t) 0

abbrev pub late_in : ℕ → List ℕ → List Entry
late_in c t = table_at c (drop (4 + 24 * c) t) 0

-- both halves are tables
abbrev pub Both : ℕ → List ℕ → Type 0
Both c t = BothHold c (early_in c t) (late_in c t) t
