-- A table's bytes and its entries, and what each write leaves of them. Assumes nothing.
use Prim.Native.Nat.{ℕ, ◌+◌, ◌*◌, ◌≤◌, ◌<◌, min}
use mathlib.Core.Path.{◌≡◌, refl, sym, ap, subst, ◌∙◌}
use mathlib.Core.Bool.{Bool}
use mathlib.Core.List.{List, [], append-nil}
use native.Mathlib.Omega.{arith}
use lib.ListN.{length}
use lib.Dec.{ltb}
use Rattle.octets.specs.Bytes.{num, items}
use Rattle.octets.proofs.Codecs.{All, back_number, get_or_items}
use Rattle.rules.specs.Entry.{no_entry, entry_of, among}
use Rattle.rules.specs.Read.{entry_at}
use Rattle.rules.specs.Image.{table_bytes, table_at}
use Rattle.rules.specs.declared.Entry.{Entry}
use Rattle.rules.proofs.Entries.{EntryFits}
use Rattle.rules.proofs.Tables.{TableFits, table}
use Rattle.repeats.specs.Repeat.{first_to}
use Rattle.repeats.proofs.Laws.{first_agree}
use Rattle.entries.specs.First.{find_row}
use Rattle.entries.specs.Table.{Holds, Table}
use Rattle.entries.proofs.First.{among_row}

-- ---- the record

pub count_table : (c : ℕ) (es : List Entry) → length es ≤ 4096 → num (table_bytes c es) 0 4 ≡ length es
unfolding table_bytes
count_table c es h = back_number 4 (table_bytes c es) 0 (length es) _ (omega arith) refl

table_fits : (c : ℕ) (es : List Entry) → length es ≤ c → c ≤ 4096 → All EntryFits es → TableFits c es
table_fits c es r s f = record { room = r; counted = omega arith; each = f }

pub hold : (c : ℕ) (es : List Entry) (t : List ℕ) → t ≡ table_bytes c es → length es ≤ c → c ≤ 4096 → All EntryFits es → Holds c es t
hold c es t b r s f =
    record {
      bytes = b;
      room = r;
      small = s;
      fit = f;
      size = ap length b ∙ (table c).long es (table_fits c es r s f);
      count = ap (λ (x : List ℕ). num x 0 4) b ∙ count_table c es (omega arith);
    }

-- one of the entries that stand in a row behind a count, by its place
pub row_read : (es : List Entry) (t : List ℕ) → items (entry_at t) 24 4 (length es) ≡ es → (i : ℕ) → i < length es → entry_at t (4 + 24 * i) ≡ entry_of es i
row_read es t e i l = sym (get_or_items (entry_at t) 24 4 (length es) i no_entry l) ∙ ap (λ (xs : List Entry). entry_of xs i) e

module _ (c : ℕ) (es : List Entry) (t : List ℕ) (h : Holds c es t) where
  -- the entries that are read are those that it holds
  pub decoded : table_at c t 0 ≡ es
  decoded = (table c).back t 0 es [] (table_fits c es h.room h.small h.fit) (h.bytes ∙ sym (append-nil (table_bytes c es)))

  pub is_table : Table c t
  is_table = subst (λ (x : List Entry). Holds c x t) (sym decoded) h

  -- what a further call says of the entries that it read, said of those that the table holds
  pub and_then : (op : List Entry → List Entry) (u : List ℕ) → Holds c (op (table_at c t 0)) u → Holds c (op es) u
  and_then op u k = subst (λ (x : List Entry). Holds c (op x) u) decoded k

  -- all of them, by its count
  pub rows_read : (n : ℕ) → n ≡ num t 0 4 → items (entry_at t) 24 4 n ≡ es
  unfolding table_at
  rows_read n q =
      let m : n ≡ min (num t 0 4) c = omega (arith, h.count, h.room) in
      rw m decoded

  -- one entry, by its place
  pub entry_in : (i : ℕ) → i < length es → entry_at t (4 + 24 * i) ≡ entry_of es i
  entry_in i l = row_read es t (rows_read (length es) (sym h.count)) i l

  -- the rows of its bytes are those of its entries
  pub rows_in : (q : Entry → Bool) (n : ℕ) → n ≡ length es → first_to (λ i. q (entry_at t (4 + 24 * i))) n ≡ first_to (λ i. q (entry_of es i)) n
  rows_in q n e = first_agree _ _ n (λ i l. ap q (entry_in i (omega arith)))

  -- what a search for the transaction of e tells
  pub row_among : (e : Entry) (n r : ℕ) → n ≡ length es → r ≡ find_row (λ i. entry_at t (4 + 24 * i)) e.request e.coordinator n → ltb r n ≡ among es e
  row_among e n r q f = among_row (λ i. entry_at t (4 + 24 * i)) es e n r (sym q) (λ i l. entry_in i (omega arith)) f

-- a table with no entry
pub empty : (c : ℕ) (t : List ℕ) → t ≡ table_bytes c [] → c ≤ 4096 → Holds c [] t
empty c t b s = hold c [] t b (omega arith) s tt
