-- The slots that are lent: the table in them, what a table laid there becomes, and that they index the rows.
use mathlib.Core.Path.{◌≡◌, ap, refl}
use mathlib.Core.List.{List, [], ◌∷◌}
use Prim.Native.Nat.{ℕ, ◌+◌, ◌-◌, ◌<◌, ◌≤◌}
use native.Mathlib.Omega.{arith}
use lib.ListN.{length, set, take, drop, length-set, length-take, length-drop}
use lib.Seq.{get_or-set_other}
use Rattle.hashed.specs.Table.{Holds}
use Rattle.sorted.specs.Order.{row_at, Sorted}
use Rattle.rows.specs.Slots.{served_by, size_of, table_of, Filled, Indexed}
use Rattle.hashed.proofs.Table.{holds_agree, holds_wider}
use Rattle.sorted.proofs.Order.{rising_agree}

-- the mark
pub marked : (t : List ℕ) (v : ℕ) → 0 < length t → served_by (set t 0 v) ≡ v
marked [] v h = absurd (omega arith)
marked (x ∷ t) v h = refl

module _ (key : ℕ → ℕ) (m : ℕ) (t : List ℕ) where
  -- where the slots do not serve nothing is asked
  pub unserved : 2 ≤ served_by t → Indexed key m t
  unserved h = record { filled = λ l. absurd (omega arith); sorted = λ l. absurd (omega arith) }

  pub by_order : served_by t ≡ 1 → Sorted key m t → Indexed key m t
  by_order h w = record { filled = λ l. absurd (omega arith); sorted = λ _. w }

-- what is found asks for the first m keys alone
pub indexed_agree : (key other : ℕ → ℕ) (m : ℕ) → ((i : ℕ) → i < m → key i ≡ other i) → (t : List ℕ) → Indexed key m t → Indexed other m t
indexed_agree key other m h t w =
    record {
      filled = λ l. record {
        roomy = (w.filled l).roomy;
        inside = (w.filled l).inside;
        found = holds_agree key other m h (table_of t) (w.filled l).found;
      };
      sorted = λ l. record {
        room = (w.sorted l).room;
        rising = rising_agree key other m m (row_at t) (row_at t) h (λ i k. refl) (w.sorted l).rising;
      };
    }

-- rows that stand in order, and the mark of it
pub ordered_now : (key : ℕ → ℕ) (m : ℕ) (t : List ℕ) → Sorted key m t → Indexed key m (set t 0 1)
ordered_now key m t w =
    by_order key m (set t 0 1) (marked t 1 (omega (arith, w.room))) (record {
      room = omega (arith, w.room, length-set t 0 1);
      rising = rising_agree key key m m (row_at t) (row_at (set t 0 1)) (λ i k. refl) (λ i k. get_or-set_other t 0 (2 + i) 1 0 (λ e. omega arith)) w.rising;
    })

-- a table of n slots, as it is lent
pub part_length : (n : ℕ) (t : List ℕ) → 2 + n ≤ length t → length (take (2 + n - 2) (drop 2 t)) ≡ n
part_length n t h = simp (length-take, length-drop) (omega arith)

-- slots that serve by a table of n slots
module _ (key : ℕ → ℕ) (m n : ℕ) (t : List ℕ) (w : Indexed key m t) (l : served_by t ≡ 0) (en : n ≡ size_of t) where
  pub served_room : (64 ≤ n) × (2 + n ≤ length t)
  served_room = let f : Filled key m t = w.filled l in (omega (arith, f.roomy), omega (arith, f.inside))

  -- the table is one that paths fit into
  pub served_part : n ≤ 65535 → (64 ≤ length (take (2 + n - 2) (drop 2 t))) × (length (take (2 + n - 2) (drop 2 t)) ≤ 65535)
  served_part k = (omega (arith, part_length n t served_room.1, served_room.0), omega (arith, part_length n t served_room.1))

  part_is : take (2 + n - 2) (drop 2 t) ≡ table_of t
  part_is = let e : 2 + n - 2 ≡ size_of t = omega arith in ap (λ (k : ℕ). take k (drop 2 t)) e

  pub served_holds : Holds key m (take (2 + n - 2) (drop 2 t)) m
  served_holds = rw part_is (w.filled l).found

  -- the rows that are in are in where one more is to come
  pub served_wider : (k i : ℕ) → m ≤ k → i ≡ m → Holds key k (take (2 + n - 2) (drop 2 t)) i
  served_wider k i e f = rw f (holds_wider key m k e (take (2 + n - 2) (drop 2 t)) served_holds)
