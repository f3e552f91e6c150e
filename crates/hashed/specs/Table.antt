-- A table of rows by key: slots that hold numbers of rows. A number that is no row's, m or more, says that the slot is free.
use Rattle.std.specs.Prelude.{ℕ, zero, suc, ◌+◌, ◌-◌, ◌*◌, ◌/◌, ◌%◌, ◌<◌, ◌≤◌, ◌≡◌, Bool, ◌||◌, List, eqb, leb, length, get_or}
use Rattle.rules.specs.Choice.{pick}
use Rattle.repeats.specs.Repeat.{repeat_place}

-- a number of 4 bytes that scatters the keys: the low 4 bytes of a key and the 2 above them, each by its factor
unfoldable pub hash_of : ℕ → ℕ
hash_of x = (x % 4294967296 * 2654435769 + x / 4294967296 % 65536 * 2246822507) % 4294967296

-- the slot where the path of key x begins, in a table of `size` slots: the path is 64 slots long
unfoldable pub slot_of : ℕ → ℕ → ℕ
slot_of size x = hash_of x * (size - 64) / 4294967296

module _ (key : ℕ → ℕ) (m : ℕ) where
  -- the path of key x ends at slot p: it is free, or holds the row of x
  unfoldable pub ends : List ℕ → ℕ → ℕ → Bool
  ends t x p = leb m (get_or t p m) || eqb (key (get_or t p m)) x

  -- the first of n slots from p on at which the path of x ends; the table's size where there is none
  unfoldable pub stop : List ℕ → ℕ → ℕ → ℕ → ℕ
  stop t x p zero = length t
  stop t x p (suc n) = pick (ends t x p) p (stop t x (p + 1) n)

  -- the slot at which the path of key x ends
  unfoldable pub slot_at : List ℕ → ℕ → ℕ
  slot_at t x = stop t x (slot_of (length t) x) 64

  -- the row that the table has for key x: m or more where it has none
  unfoldable pub held : List ℕ → ℕ → ℕ
  held t x = get_or t (slot_at t x) m

  -- the table has each of the first i rows for its key
  unfoldable pub Holds : List ℕ → ℕ → Type 0
  Holds t i = (j : ℕ) → j < i → held t (key j) ≡ j

-- every slot is free
unfoldable pub Empty : List ℕ → Type 0
Empty t = (p : ℕ) → p < length t → get_or t p 0 ≡ 65535

-- rows were laid into t, which became u, up to r: where t was empty and r is not above m, r is the first that repeats an earlier one or m, and
-- where r is m, all are in
pub record Laid (key : ℕ → ℕ) (m : ℕ) (t u : List ℕ) (r : ℕ) : Type 0 where
  pub placed : Empty t → r ≤ m → r ≡ repeat_place key m
  pub whole : r ≡ m → Holds key m u m
