-- Taking entries in: by the place of the transaction, one after the other, and that the list only grows. Assumes nothing.
use Prim.Native.Nat.{ℕ, zero, suc, ◌+◌, ◌-◌, ◌*◌, ◌≤◌, ◌<◌}
use mathlib.Core.Path.{◌≡◌, refl, sym, ap, subst, ◌∙◌}
use mathlib.Core.Bool.{Bool, true, false, true≢false}
use mathlib.Core.List.{List, [], ◌∷◌, ◌++◌}
use native.Mathlib.Omega.{arith}
use lib.ListN.{length, set, length-append, length-set}
use lib.Seq.{set-get_or}
use lib.Dec.{ltb}
use borrow.Author.Tests.{lt-ltb, le-ltb}
use native.Mathlib.Nat.{add-zero}
use native.Mathlib.Numerals.{add-one}
use Rattle.octets.specs.Bytes.{num, items}
use Rattle.rules.specs.Choice.{pick}
use Rattle.rules.specs.Entry.{no_entry, entry_of, same_txn}
use Rattle.rules.specs.Merge.{take_in, all_taken}
use Rattle.rules.specs.Read.{entry_at}
use Rattle.rules.specs.Image.{table_at}
use Rattle.rules.specs.declared.Entry.{Entry}
use Rattle.rules.proofs.Choice.{pick_true, pick_false, by_test}
use Rattle.repeats.proofs.Laws.{First, first_to_lem}
use Rattle.entries.specs.First.{find_row}
use Rattle.entries.specs.Table.{Holds, Table}
use Rattle.entries.proofs.Table.{rows_in, and_then, decoded}
use Rattle.merge.specs.Taken.{Taken}

-- ---- one entry, by the first place of its transaction

-- the first place of the transaction of e in a list, its length where there is none
abbrev FirstOf : Entry → List Entry → ℕ → Type 0
FirstOf e es i = First (λ k. same_txn e (entry_of es k)) (length es) i

pub taken_found : (e : Entry) (es : List Entry) (i : ℕ) → FirstOf e es i → i < length es → take_in e es ≡ set es i (pick (ltb (entry_of es i).stamp e.stamp) e (entry_of es i))
unfolding take_in
taken_found e [] i f l = absurd (omega arith)
taken_found e (d ∷ ds) zero f l = pick_true (same_txn e d) _ _ (f.at l)
taken_found e (d ∷ ds) (suc i) f l =
    pick_false (same_txn e d) _ _ (f.before 0 (omega arith))
    ∙ ap (λ (r : List Entry). d ∷ r)
    (taken_found e ds i (record { low = omega (arith, f.low); before = λ j m. f.before (suc j) (omega arith); at = λ m. f.at (omega arith) }) (omega arith))

pub taken_missing : (e : Entry) (es : List Entry) (i : ℕ) → FirstOf e es i → length es ≤ i → take_in e es ≡ es ++ (e ∷ [])
unfolding take_in
taken_missing e [] i f l = refl
taken_missing e (d ∷ ds) zero f l = absurd (omega arith)
taken_missing e (d ∷ ds) (suc i) f l =
    pick_false (same_txn e d) _ _ (f.before 0 (omega arith))
    ∙ ap (λ (r : List Entry). d ∷ r)
    (taken_missing e ds i (record { low = omega (arith, f.low); before = λ j m. f.before (suc j) (omega arith); at = λ m. f.at (omega arith) }) (omega arith))

-- ---- what is told

pub told_held : (c : ℕ) (es : List Entry) (t : List ℕ) → Holds c es t → Taken c es true t
told_held c es t h = record { held = λ _. h; full = λ q. absurd (true≢false q) }

pub told_full : (c : ℕ) (es : List Entry) (t : List ℕ) → c < length es → Taken c es false t
told_full c es t l = record { held = λ q. absurd (true≢false (sym q)); full = λ _. l }

-- in a table, by a search for the transaction
module _ (c : ℕ) (t : List ℕ) (e : Entry) (n i : ℕ) (h : Table c t) (hn : n ≡ num t 0 4) (hi : i ≡ find_row (λ (j : ℕ). entry_at t (4 + 24 * j)) e.request e.coordinator n) where
  long : n ≡ length (table_at c t 0)
  long = hn ∙ h.count

  first : FirstOf e (table_at c t 0) i
  first =
      let q : i ≡ find_row (entry_of (table_at c t 0)) e.request e.coordinator n = hi ∙ rows_in c (table_at c t 0) t h (same_txn e) n long in
      rw (q, long) (first_to_lem (λ k. same_txn e (entry_of (table_at c t 0) k)) (length (table_at c t 0)))

  -- how many there are then
  pub found_long : i < n → length (take_in e (table_at c t 0)) ≡ length (table_at c t 0)
  found_long l = ap length (taken_found e (table_at c t 0) i first (omega (arith, long))) ∙ simp length-set

  pub missing_long : n ≤ i → length (take_in e (table_at c t 0)) ≡ n + 1
  missing_long l =
      let es = table_at c t 0 in
      ap length (taken_missing e es i first (omega (arith, long))) ∙ length-append es (e ∷ []) ∙ omega (arith, long)

  -- the one that stands there is not lower
  pub stays : (d : Entry) → d ≡ entry_of (table_at c t 0) i → i < n → e.stamp ≤ d.stamp → Taken c (take_in e (table_at c t 0)) true t
  stays d hd l s =
      let es = table_at c t 0 in
      let q : ltb (entry_of es i).stamp e.stamp ≡ false = rw (← hd) (le-ltb d.stamp e.stamp s) in
      let z : take_in e es ≡ es = taken_found e es i first (omega (arith, long)) ∙ ap (set es i) (pick_false _ e (entry_of es i) q) ∙ set-get_or es i no_entry in
      told_held c (take_in e es) t (subst (λ (ds : List Entry). Holds c ds t) (sym z) h)

  -- the one that stands there is lower
  pub replaces : (d : Entry) (u : List ℕ) → d ≡ entry_of (table_at c t 0) i → i < n → d.stamp < e.stamp → Holds c (set (table_at c t 0) i e) u → Taken c (take_in e (table_at c t 0)) true u
  replaces d u hd l s k =
      let es = table_at c t 0 in
      let q : ltb (entry_of es i).stamp e.stamp ≡ true = rw (← hd) (lt-ltb d.stamp e.stamp s) in
      let z : take_in e es ≡ set es i e = taken_found e es i first (omega (arith, long)) ∙ ap (set es i) (pick_true _ e (entry_of es i) q) in
      told_held c (take_in e es) u (subst (λ (ds : List Entry). Holds c ds u) (sym z) k)

  -- none stands there
  pub appends : (u : List ℕ) → n ≤ i → Holds c (table_at c t 0 ++ (e ∷ [])) u → Taken c (take_in e (table_at c t 0)) true u
  appends u l k =
      let es = table_at c t 0 in
      told_held c (take_in e es) u (subst (λ (ds : List Entry). Holds c ds u) (sym (taken_missing e es i first (omega (arith, long)))) k)

  pub no_place : (u : List ℕ) → n ≤ i → c ≤ n → Taken c (take_in e (table_at c t 0)) false u
  no_place u l m =
      let es = table_at c t 0 in
      told_full c (take_in e es) u (omega (arith, missing_long l))

-- ---- one after the other

-- first the ones, then the others
pub all_append : (ds xs ys : List Entry) → all_taken ds (xs ++ ys) ≡ all_taken (all_taken ds xs) ys
unfolding all_taken
all_append ds [] ys = refl
all_append ds (x ∷ xs) ys = all_append (take_in x ds) xs ys

pub all_last : (ds xs : List Entry) (e : Entry) → all_taken ds (xs ++ (e ∷ [])) ≡ take_in e (all_taken ds xs)
unfolding all_taken
all_last ds xs e = all_append ds xs (e ∷ [])

-- the list only grows
pub in_grows : (e : Entry) (es : List Entry) → length es ≤ length (take_in e es)
unfolding take_in
in_grows e [] = omega arith
in_grows e (d ∷ ds) = by_test (λ (r : List Entry). suc (length ds) ≤ length r) (same_txn e d) (λ _. omega arith) (λ _. let g = in_grows e ds in omega arith)

pub all_grows : (ds xs : List Entry) → length ds ≤ length (all_taken ds xs)
unfolding all_taken
all_grows ds [] = omega arith
all_grows ds (x ∷ xs) = let a = in_grows x ds in let b = all_grows (take_in x ds) xs in omega arith

-- ---- those that stand in a row in bytes

module _ (ds : List Entry) (b : List ℕ) (at : ℕ) where
  -- the first i of them taken in
  abbrev pub first_in : ℕ → List Entry
  first_in i = all_taken ds (items (entry_at b) 24 at i)

  pub row_start : ds ≡ first_in 0
  unfolding all_taken items
  row_start = refl

  pub row_next : (i : ℕ) → first_in (i + 1) ≡ take_in (entry_at b (at + 24 * i)) (first_in i)
  unfolding items
  row_next i = rw add-one (all_last ds (items (entry_at b) 24 at i) (entry_at b (at + 24 * i)))

  pub row_grows : (i k : ℕ) → length (first_in i) ≤ length (first_in (i + k))
  row_grows i zero = rw add-zero (omega arith)
  row_grows i (suc k) =
      let a = row_grows i k in
      let b = in_grows (entry_at b (at + 24 * (i + k))) (first_in (i + k)) in
      let q : i + suc k ≡ i + k + 1 = omega arith in
      rw (q, row_next (i + k)) (omega arith)

  module _ (c i : ℕ) (e : Entry) (t u : List ℕ) (r : Bool) (h : Holds c (first_in i) t) (he : e ≡ entry_at b (at + 24 * i)) (k : Taken c (take_in e (table_at c t 0)) r u) where
    pub row_again : r ≡ true → Holds c (first_in (i + 1)) u
    row_again q = rw (row_next i, ← he) (and_then c (first_in i) t h (take_in e) u (k.held q))

    pub row_full : (n : ℕ) → i < n → r ≡ false → Taken c (first_in n) false u
    row_full n l q =
        let z : length (first_in (i + 1)) ≡ length (take_in e (table_at c t 0)) = ap length (row_next i) ∙ sym (ap (λ (x : Entry). length (take_in x (table_at c t 0))) he ∙ ap (λ (es : List Entry). length (take_in (entry_at b (at + 24 * i)) es)) (decoded c (first_in i) t h)) in
        let g = row_grows (i + 1) (n - (i + 1)) in
        let m : i + 1 + (n - (i + 1)) ≡ n = omega arith in
        let v : c < length (take_in e (table_at c t 0)) = k.full q in
        let w : length (first_in (i + 1)) ≤ length (first_in n) = rw m at g in
        told_full c (first_in n) u (omega arith)

  pub row_end : (c i n : ℕ) (t : List ℕ) → Holds c (first_in i) t → i ≤ n → n ≤ i → Taken c (first_in n) true t
  row_end c i n t h l m = let q : n ≡ i = omega arith in told_held c (first_in n) t (rw q h)
