-- The rows of entries that stand in bytes: what the slots are asked for, and what they find. Assumes nothing.
use Prim.Native.Nat.{ℕ, ◌+◌, ◌-◌, ◌*◌, ◌≤◌, ◌<◌}
use mathlib.Core.Path.{◌≡◌, refl, sym, ap, ◌∙◌}
use mathlib.Core.List.{List, []}
use native.Mathlib.Omega.{arith}
use lib.ListN.{length, get_or}
use Rattle.octets.specs.Bytes.{num, items}
use Rattle.octets.proofs.Laws.{bytes_known}
use Rattle.octets.proofs.Codecs.{length_items, get_or_items}
use Rattle.rules.specs.Entry.{no_entry}
use Rattle.rules.specs.Read.{entry_at}
use Rattle.rules.specs.declared.Entry.{Entry}
use Rattle.repeats.specs.Repeat.{row_of}
use Rattle.repeats.specs.Rows.{count_of, spot_of, key_of, Inside}
use Rattle.rows.specs.Slots.{Indexed}
use Rattle.repeats.specs.declared.Spots.{Spots}
use Rattle.repeats.proofs.Places.{spot_first}
use Rattle.rows.proofs.Slots.{unserved, indexed_agree}
use Rattle.entries.specs.First.{find_row}
use Rattle.entries.specs.Rows.{entry_spots, key_in, FoundTo, Found}
use Rattle.entries.proofs.Keys.{key_at, keyed_at, row_keyed}

-- slots by which entries are found serve others of the same transactions
pub found_agree : (es ds : List Entry) (n : ℕ) (slots : List ℕ) → ((i : ℕ) → i < n → key_in es i ≡ key_in ds i) → FoundTo es n slots → FoundTo ds n slots
found_agree es ds n slots h f = indexed_agree (key_in es) (key_in ds) n h slots f

-- no slots serve, and so find all
pub found_empty : (es : List Entry) → Found es []
found_empty es = unserved (key_in es) (length es) [] (omega arith)

module _ (b : List ℕ) (at n : ℕ) (inside : at + 24 * n ≤ length b) (few : n ≤ 4096) (sp : Spots) (e : sp ≡ entry_spots at n) where
  abbrev es : List Entry
  es = items (entry_at b) 24 at n

  spot_is : (i : ℕ) → i < n → spot_of (entry_spots at n) i ≡ at + 24 * i + 16
  spot_is i l = sym (spot_first (entry_spots at n) i l) ∙ omega arith

  key_row : (i : ℕ) → i < n → key_of b (entry_spots at n) i ≡ key_in es i
  unfolding key_of key_in
  key_row i l =
      ap (λ (a : ℕ). num b a 6) (spot_is i l)
      ∙ key_at b (at + 24 * i)
      ∙ ap (λ (x : Entry). x.request + x.coordinator * 4294967296) (sym (get_or_items (entry_at b) 24 at n i no_entry l))

  all_rows : count_of (entry_spots at n) ≡ length es
  all_rows = omega (arith, length_items (entry_at b) 24 at n)

  pub rows_inside : Inside b sp
  rows_inside = rw e (record { one = omega (arith, inside); two = omega arith; three = omega arith; few = omega (arith, few) })

  -- all rows were put in
  pub rows_found : (slots : List ℕ) → Indexed (key_of b sp) (count_of sp) slots → Found es slots
  rows_found slots f =
      indexed_agree (key_of b (entry_spots at n)) (key_in es) (length es) (λ i l. key_row i (omega (arith, length_items (entry_at b) 24 at n))) slots
      (rw (e, all_rows) at f)

  -- what a search is asked for
  pub find_asked : (slots : List ℕ) → Found es slots → Inside b sp × Indexed (key_of b sp) (count_of sp) slots
  find_asked slots f =
      let g : Indexed (key_of b (entry_spots at n)) (length es) slots
      = indexed_agree (key_in es) (key_of b (entry_spots at n)) (length es) (λ i l. sym (key_row i (omega (arith, length_items (entry_at b) 24 at n)))) slots f in
      (rows_inside, rw (e, all_rows) g)

  -- it finds what the search over all finds
  pub row_found : (request coordinator r : ℕ) → ((i : ℕ) → get_or b i 0 < 256) → request < 4294967296 → r ≡ row_of (key_of b sp) (request + coordinator * 4294967296) (count_of sp)
      → r ≡ find_row (λ i. entry_at b (at + 24 * i)) request coordinator n
  unfolding key_of
  row_found request coordinator r known l q =
      let d : Entry = record { stamp = 0; command = 0; request = request; coordinator = coordinator; mask = 0 } in
      let x : ℕ = request + coordinator * 4294967296 in
      let z : count_of (entry_spots at n) ≡ n = omega arith in
      q ∙ rw e (ap (row_of (key_of b (entry_spots at n)) x) z)
      ∙ row_keyed (λ i. entry_at b (at + 24 * i)) (key_of b (entry_spots at n)) x d n (record { is = refl; low = l })
      (λ i k. keyed_at b (at + 24 * i) (spot_of (entry_spots at n) i) _ (bytes_known b known) (omega (arith, inside)) (spot_is i k) refl)

  -- what one row more is asked for
  pub add_asked : (slots : List ℕ) → 0 < n → FoundTo es (n - 1) slots → Inside b sp × (0 < count_of sp) × Indexed (key_of b sp) (count_of sp - 1) slots
  add_asked slots p f =
      let z : count_of (entry_spots at n) - 1 ≡ n - 1 = omega arith in
      let g : Indexed (key_of b (entry_spots at n)) (n - 1) slots
      = indexed_agree (key_in es) (key_of b (entry_spots at n)) (n - 1) (λ i l. sym (key_row i (omega arith))) slots f in
      (rows_inside, rw e (omega arith), rw (e, z) g)
