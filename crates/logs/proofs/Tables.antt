-- A table's entries as those that stand in a row of its bytes: its good log. Assumes nothing.
use Prim.Native.Nat.{ℕ, ◌+◌, ◌≤◌, min}
use mathlib.Core.Path.{◌≡◌, ap}
use mathlib.Core.List.{List}
use native.Mathlib.Omega.{arith}
use lib.Dec.{eqb}
use Rattle.octets.specs.Bytes.{num, items}
use Rattle.octets.proofs.Codecs.{length_items, get_or_items}
use Rattle.rules.specs.Entry.{no_entry, entry_of}
use Rattle.rules.specs.Log.{good_to, good_log}
use Rattle.rules.specs.Read.{entry_at}
use Rattle.rules.specs.Image.{table_at}
use Rattle.logs.specs.Place.{row_at}
use Rattle.logs.proofs.Place.{good_like}

-- a table with no more entries than room, anywhere in bytes
pub table_run : (c : ℕ) (b : List ℕ) (at n : ℕ) → num b at 4 ≤ c → n ≡ num b at 4 → table_at c b at ≡ items (entry_at b) 24 (at + 4) n
unfolding table_at
table_run c b at n h q = let m : min (num b at 4) c ≡ n = omega arith in ap (items (entry_at b) 24 (at + 4)) m

-- a log that stands in a row of bytes is good where the place is its end
pub good_items : (s k : ℕ) (b : List ℕ) (at n : ℕ) → good_log s k (items (entry_at b) 24 at n) ≡ eqb (good_to s k (row_at b at) n) n
unfolding good_log
good_items s k b at n =
    rw (length_items (entry_at b) 24 at n)
    (ap (λ (x : ℕ). eqb x n) (good_like s k (entry_of (items (entry_at b) 24 at n)) (row_at b at) n (λ i l. get_or_items (entry_at b) 24 at n i no_entry l)))
