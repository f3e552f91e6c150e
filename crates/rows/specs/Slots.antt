-- The slots that are lent: by what rows are found, how many slots the table has, and the table; or the rows in order behind these two.
use Rattle.std.specs.Prelude.{ℕ, ◌+◌, ◌≤◌, ◌≡◌, List, length, get_or, take, drop}
use Rattle.hashed.specs.Table.{Holds}
use Rattle.sorted.specs.Order.{Sorted}
use Rattle.rows.specs.declared.Served.{Served}
use Rattle.rows.specs.declared.Served.TheVariants.{Table, Order, Neither}

-- by what rows are found: 0 by a table, 1 by their order, else by neither
abbrev pub served_by : List ℕ → ℕ
served_by t = get_or t 0 2

-- what the number in the first slot says
abbrev pub Says : Served → ℕ → Type 0
Says Table n = n ≡ 0
Says Order n = n ≡ 1
Says Neither n = 2 ≤ n

-- how many slots the table has
abbrev pub size_of : List ℕ → ℕ
size_of t = get_or t 1 0

-- the table in the slots
abbrev pub table_of : List ℕ → List ℕ
table_of t = take (size_of t) (drop 2 t)

-- the table lies in the slots, paths fit into it, and it has each of the m rows for its key
pub record Filled (key : ℕ → ℕ) (m : ℕ) (t : List ℕ) : Type 0 where
  pub roomy : 64 ≤ size_of t
  pub inside : 2 + size_of t ≤ length t
  pub found : Holds key m (table_of t) m

-- where the slots serve, every row is found by them
pub record Indexed (key : ℕ → ℕ) (m : ℕ) (t : List ℕ) : Type 0 where
  pub filled : served_by t ≡ 0 → Filled key m t
  pub sorted : served_by t ≡ 1 → Sorted key m t
