-- The slots beside a table of entries: what is asked of them, and what they are once an entry is taken in. Assumes nothing.
use Prim.Native.Nat.{ℕ, zero, suc, ◌+◌, ◌-◌, ◌*◌, ◌≤◌, ◌<◌}
use mathlib.Core.Path.{◌≡◌, refl, sym, ap, subst, ◌∙◌}
use mathlib.Core.Bool.{Bool, true, false, true≢false}
use mathlib.Core.List.{List, [], ◌∷◌, ◌++◌}
use native.Mathlib.Omega.{arith}
use lib.ListN.{length}
use lib.Dec.{ltb}
use Rattle.octets.specs.Bytes.{num, items}
use Rattle.rules.specs.Entry.{entry_of, same_txn}
use Rattle.rules.specs.Merge.{take_in}
use Rattle.rules.specs.Read.{entry_at}
use Rattle.rules.specs.Image.{table_at}
use Rattle.rules.specs.declared.Entry.{Entry}
use Rattle.rules.proofs.Choice.{by_test}
use Rattle.rules.proofs.Order.{txn_coordinator, txn_request}
use Rattle.entries.specs.First.{find_row}
use Rattle.entries.specs.Rows.{key_in, FoundTo, Found}
use Rattle.entries.specs.Table.{Holds, Table}
use Rattle.entries.proofs.Rows.{found_agree}
use Rattle.entries.proofs.Table.{decoded, rows_read}
use Rattle.merge.specs.Taken.{Taken, Took}
use Rattle.merge.proofs.Taking.{appends, found_long, missing_long, first_in, row_next, row_end}

-- what a search in a table is asked for
pub find_asked : (c : ℕ) (t slots : List ℕ) (n : ℕ) → Table c t → n ≡ num t 0 4 → Found (table_at c t 0) slots → (4 + 24 * n ≤ length t) × (n ≤ 4096) × Found (items (entry_at t) 24 4 n) slots
find_asked c t slots n h e f =
    (omega (arith, h.count, h.size, h.room), omega (arith, h.count, h.room, h.small), subst (λ (es : List Entry). Found es slots) (sym (rows_read c (table_at c t 0) t h n e)) f)

-- ---- an entry taken in

abbrev key : Entry → ℕ
key e = e.request + e.coordinator * 4294967296

same_key : (d e : Entry) → same_txn d e ≡ true → key d ≡ key e
same_key d e h = rw (txn_coordinator d e h, txn_request d e h)

-- what replaces an entry has its transaction
key_kept : (e : Entry) (es : List Entry) (k : ℕ) → k < length es → key_in (take_in e es) k ≡ key_in es k
unfolding take_in key_in
key_kept e [] k l = absurd (omega arith)
key_kept e (d ∷ ds) zero l =
    by_test (λ (r : List Entry). key (entry_of r 0) ≡ key d) (same_txn e d)
    (λ h. by_test (λ (x : Entry). key x ≡ key d) (ltb d.stamp e.stamp) (λ _. same_key e d h) (λ _. refl))
    (λ _. refl)
key_kept e (d ∷ ds) (suc k) l =
    by_test (λ (r : List Entry). key (entry_of r (suc k)) ≡ key (entry_of ds k)) (same_txn e d) (λ _. refl) (λ _. key_kept e ds k (omega arith))

rows_kept : (e : Entry) (es : List Entry) (slots : List ℕ) → Found es slots → FoundTo (take_in e es) (length es) slots
rows_kept e es slots f = found_agree es (take_in e es) (length es) slots (λ i l. sym (key_kept e es i l)) f

-- nothing is said of the slots where there was no place
pub took_full : (c : ℕ) (es : List Entry) (t slots : List ℕ) → Taken c es false t → Took c es false t slots
took_full c es t slots k = record { taken = k; found = λ q. absurd (true≢false (sym q)) }

-- in a table, by a search for the transaction
module _ (c : ℕ) (t : List ℕ) (e : Entry) (n i : ℕ) (h : Table c t) (hn : n ≡ num t 0 4) (hi : i ≡ find_row (λ (j : ℕ). entry_at t (4 + 24 * j)) e.request e.coordinator n) (slots : List ℕ) (f : Found (table_at c t 0) slots) where
  -- it has its row
  pub took_row : (u : List ℕ) → i < n → Taken c (take_in e (table_at c t 0)) true u → Took c (take_in e (table_at c t 0)) true u slots
  took_row u l k = record { taken = k; found = λ q. rw (found_long c t e n i h hn hi l) (rows_kept e (table_at c t 0) slots f) }

  module _ (u : List ℕ) (l : n ≤ i) (k : Holds c (table_at c t 0 ++ (e ∷ [])) u) where
    stands : Holds c (take_in e (table_at c t 0)) u
    stands = (appends c t e n i h hn hi u l k).held refl

    read : items (entry_at u) 24 4 (n + 1) ≡ take_in e (table_at c t 0)
    read = rows_read c (take_in e (table_at c t 0)) u stands (n + 1) (sym (stands.count ∙ missing_long c t e n i h hn hi l))

    -- it has none yet
    pub row_asked : (4 + 24 * (n + 1) ≤ length u) × (0 < n + 1) × (n + 1 ≤ 4096) × FoundTo (items (entry_at u) 24 4 (n + 1)) (n + 1 - 1) slots
    row_asked =
        let z : length (table_at c t 0) ≡ n + 1 - 1 = sym (hn ∙ h.count) ∙ omega arith in
        let m = missing_long c t e n i h hn hi l in
        (omega (arith, stands.size, stands.room), omega arith, omega (arith, stands.room, stands.small), rw (read, ← z) (rows_kept e (table_at c t 0) slots f))

    -- it has it now
    pub took_new : (new : List ℕ) → Found (items (entry_at u) 24 4 (n + 1)) new → Took c (take_in e (table_at c t 0)) true u new
    took_new new g = record { taken = appends c t e n i h hn hi u l k; found = λ _. rw read at g }

-- ---- one after the other

module _ (ds : List Entry) (b : List ℕ) (at c i : ℕ) (e : Entry) (t u new : List ℕ) (r : Bool) (h : Holds c (first_in ds b at i) t) (he : e ≡ entry_at b (at + 24 * i)) (k : Took c (take_in e (table_at c t 0)) r u new) where
  pub rows_again : r ≡ true → Found (first_in ds b at (i + 1)) new
  rows_again q =
      let z : take_in e (table_at c t 0) ≡ first_in ds b at (i + 1) = ap (take_in e) (decoded c _ t h) ∙ ap (λ (x : Entry). take_in x (first_in ds b at i)) he ∙ sym (row_next ds b at i) in
      subst (λ (xs : List Entry). Found xs new) z (k.found q)

-- by the entries that are read
pub read_found : (c : ℕ) (es : List Entry) (t slots : List ℕ) → Holds c es t → Found es slots → Found (table_at c t 0) slots
read_found c es t slots h f = rw (decoded c es t h) f

pub took_end : (ds : List Entry) (b : List ℕ) (at c i n : ℕ) (t slots : List ℕ) → Holds c (first_in ds b at i) t → Found (first_in ds b at i) slots → i ≤ n → n ≤ i → Took c (first_in ds b at n) true t slots
took_end ds b at c i n t slots h f l m =
    let q : n ≡ i = omega arith in
    record { taken = row_end ds b at c i n t h l m; found = λ _. rw q f }
