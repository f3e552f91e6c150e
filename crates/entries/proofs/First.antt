-- Laws of the row of a transaction. Assumes nothing.
use Prim.Native.Nat.{ℕ, suc, ◌+◌, ◌*◌, ◌≤◌, ◌<◌}
use mathlib.Core.Path.{◌≡◌, sym, ap, ◌∙◌}
use mathlib.Core.Bool.{Bool, true, false}
use mathlib.Core.List.{List}
use native.Mathlib.Omega.{arith}
use native.Mathlib.Decide.{dec_le}
use lib.ListN.{length, get_or}
use lib.Dec.{ltb}
use borrow.Author.Tests.{lt-ltb, le-ltb}
use Rattle.octets.specs.Bytes.{items}
use Rattle.octets.proofs.Codecs.{length_items, get_or_items}
use Rattle.rules.specs.Choice.{any}
use Rattle.rules.specs.Entry.{no_entry, entry_of, among, same_txn}
use Rattle.rules.specs.Read.{entry_at}
use Rattle.rules.specs.declared.Entry.{Entry}
use Rattle.rules.proofs.Choice.{at_all, none_any}
pub use Rattle.rules.proofs.Choice.{at_any as any_here}
use Rattle.repeats.specs.Repeat.{first_to}
use Rattle.repeats.proofs.Laws.{First, first_to_lem, first_agree}
use Rattle.entries.specs.First.{find_row}

-- ---- in a list

module _ {A : Type 0} (q : A → Bool) (d : A) where
  pub any_nowhere : (xs : List A) → ((i : ℕ) → i < length xs → q (get_or xs i d) ≡ false) → any q xs ≡ false
  any_nowhere xs h = none_any q xs (at_all (λ x. q x ≡ false) d xs h)

  -- some element passes where the first that does is one
  pub any_first : (xs : List A) → any q xs ≡ ltb (first_to (λ i. q (get_or xs i d)) (length xs)) (length xs)
  any_first xs = go (dec_le (suc r) (length xs))
    where
      r : ℕ
      r = first_to (λ i. q (get_or xs i d)) (length xs)

      f : First (λ i. q (get_or xs i d)) (length xs) r
      f = first_to_lem (λ i. q (get_or xs i d)) (length xs)

      go : Dec (suc r ≤ length xs) → any q xs ≡ ltb r (length xs)
      go (yes l) = any_here q d xs r l (f.at l) ∙ sym (lt-ltb r (length xs) l)
      go (no n) = any_nowhere xs (λ i l. f.before i (omega arith)) ∙ sym (le-ltb r (length xs) (omega arith))

-- a transaction stands in a list where its row is one of the list
pub find_among : (es : List Entry) (e : Entry) → among es e ≡ ltb (find_row (entry_of es) e.request e.coordinator (length es)) (length es)
find_among es e = any_first (same_txn e) no_entry es

-- the same by a search over rows that are those of the list
pub among_row : (f : ℕ → Entry) (es : List Entry) (e : Entry) (n r : ℕ) → length es ≡ n → ((i : ℕ) → i < n → f i ≡ entry_of es i) → r ≡ find_row f e.request e.coordinator n → ltb r n ≡ among es e
among_row f es e n r l h q =
    let g : r ≡ find_row (entry_of es) e.request e.coordinator n = q ∙ first_agree _ _ n (λ i k. ap (same_txn e) (h i k)) in
    rw (g, ← l) (sym (find_among es e))

-- what was found has the transaction
pub found_row : (f : ℕ → Entry) (e : Entry) (n r : ℕ) → r ≡ find_row f e.request e.coordinator n → r < n → same_txn e (f r) ≡ true
found_row f e n r q l = rw (← q) at ((first_to_lem (λ i. same_txn e (f i)) n).at (rw q at l))

-- the entries that stand in bytes
pub read_among : (b : List ℕ) (at : ℕ) (e : Entry) (n r : ℕ) → r ≡ find_row (λ i. entry_at b (at + 24 * i)) e.request e.coordinator n → ltb r n ≡ among (items (entry_at b) 24 at n) e
read_among b at e n r q =
    among_row (λ i. entry_at b (at + 24 * i)) (items (entry_at b) 24 at n) e n r (length_items (entry_at b) 24 at n) (λ i l. sym (get_or_items (entry_at b) 24 at n i no_entry l)) q
