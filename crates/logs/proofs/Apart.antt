-- No transaction stands twice where no key repeats an earlier one: of a list, and of three tables in bytes. Assumes nothing.
use Prim.Native.Nat.{ℕ, zero, suc, ◌+◌, ◌-◌, ◌*◌, ◌≤◌, ◌<◌}
use mathlib.Core.Path.{◌≡◌, refl, sym, ap, ◌∙◌}
use mathlib.Core.Bool.{Bool, true, false, ◌&&◌, ◌||◌, not, true≢false}
use mathlib.Core.List.{List, [], ◌∷◌, ◌++◌}
use native.Mathlib.Decide.{dec_lt}
use native.Mathlib.Omega.{arith}
use lib.ListN.{length, get_or, length-append, get_or-append}
use lib.Seq.{get_or-append-add}
use lib.Dec.{eqb}
use borrow.Author.Tests.{eq-eqb, ne_eqb, eqb-true, eqb-false, not-true, not-false}
use Rattle.octets.specs.Bytes.{num, items}
use Rattle.octets.proofs.Laws.{bytes_known}
use Rattle.octets.proofs.Codecs.{length_items, get_or_items}
use Rattle.octets.proofs.Logic.{and_turn}
use Rattle.rules.specs.Group.{holds}
use Rattle.rules.specs.Entry.{no_entry, entry_of, same_txn, among, entry_fits, before, last_before}
use Rattle.rules.specs.Log.{seen_before, good_log, all_hold, distinct}
use Rattle.rules.specs.Read.{entry_at}
use Rattle.rules.specs.Image.{table_at}
use Rattle.rules.specs.declared.Entry.{Entry}
use Rattle.rules.proofs.Tests.{and_l, and_r, and_both}
use Rattle.rules.proofs.Choice.{at_any}
use Rattle.repeats.specs.Repeat.{first_to, repeat_place, Distinct}
use Rattle.repeats.specs.Rows.{count_of, key_of, spot_of}
use Rattle.repeats.specs.declared.Spots.{Spots}
use Rattle.repeats.proofs.Laws.{first_agree, again, repeat_distinct, distinct_repeat}
use Rattle.repeats.proofs.Places.{spot_first, spot_second, spot_third}
use Rattle.entries.proofs.First.{any_nowhere}
use Rattle.entries.proofs.Keys.{Keyed, keyed_at, key_is, seen_is}
use Rattle.logs.specs.Place.{row_at, fits, unfit_at, Within}
use Rattle.entries.specs.Rows.{entry_spots}
use Rattle.logs.proofs.Every.{every_first, first_or}
use Rattle.logs.proofs.Place.{run_key, wrong_at, good_first, wrong_is}
use Rattle.logs.proofs.Tables.{table_run, good_items}

-- ---- of a list

-- the numbers are the keys of the entries
abbrev pub KeysOf : (ℕ → ℕ) → List Entry → Type 0
KeysOf key es = (i : ℕ) → i < length es → Keyed (key i) (entry_of es i)

module _ (e : Entry) (es : List Entry) (key : ℕ → ℕ) (h : KeysOf key (e ∷ es)) where
  -- the first entry against another
  against : (j : ℕ) → j < length es → eqb (key 0) (key (suc j)) ≡ same_txn e (entry_of es j)
  against j l = key_is (key 0) (key (suc j)) e (entry_of es j) (h 0 (omega arith)) (h (suc j) (omega arith))

  apart : among es e ≡ false → (j : ℕ) → j < length es → key 0 ≡ key (suc j) → ⊥
  apart a j l q = true≢false (sym (at_any (same_txn e) no_entry es j l (sym (against j l) ∙ eq-eqb (key 0) (key (suc j)) q)) ∙ a)

  rest : KeysOf (λ i. key (suc i)) es
  rest i l = h (suc i) (omega arith)

-- the keys of distinct transactions are distinct
pub distinct_keys : (es : List Entry) (key : ℕ → ℕ) → KeysOf key es → distinct es ≡ true → Distinct key (length es)
unfolding distinct Distinct
distinct_keys [] key h d i j hi hj q = absurd (omega arith)
distinct_keys (e ∷ es) key h d zero zero hi hj q = refl
distinct_keys (e ∷ es) key h d zero (suc j) hi hj q = absurd (apart e es key h (not-true (among es e) (and_l (not (among es e)) (distinct es) d)) j (omega arith) q)
distinct_keys (e ∷ es) key h d (suc i) zero hi hj q = absurd (apart e es key h (not-true (among es e) (and_l (not (among es e)) (distinct es) d)) i (omega arith) (sym q))
distinct_keys (e ∷ es) key h d (suc i) (suc j) hi hj q =
    ap suc (distinct_keys es (λ n. key (suc n)) (rest e es key h) (and_r (not (among es e)) (distinct es) d) i j (omega arith) (omega arith) q)

-- and the other way
pub keys_distinct : (es : List Entry) (key : ℕ → ℕ) → KeysOf key es → Distinct key (length es) → distinct es ≡ true
unfolding distinct Distinct
keys_distinct [] key h d = refl
keys_distinct (e ∷ es) key h d =
    let a : among es e ≡ false = any_nowhere (same_txn e) no_entry es (λ j l. sym (against e es key h j l) ∙ ne_eqb (key 0) (key (suc j)) (λ q. let z : 0 ≡ suc j = d 0 (suc j) (omega arith) (omega arith) q in omega arith)) in
    and_both (not (among es e)) (distinct es) (ap not a)
    (keys_distinct es (λ n. key (suc n)) (rest e es key h) (λ i j hi hj q. let z : suc i ≡ suc j = d (suc i) (suc j) (omega arith) (omega arith) q in omega arith))

pub distinct_is : (es : List Entry) (key : ℕ → ℕ) → KeysOf key es → eqb (repeat_place key (length es)) (length es) ≡ distinct es
distinct_is es key h = go (eqb (repeat_place key (length es)) (length es)) (distinct es) refl refl
  where
    go : (s t : Bool) → eqb (repeat_place key (length es)) (length es) ≡ s → distinct es ≡ t → s ≡ t
    go true t e f = sym (keys_distinct es key h (repeat_distinct key (length es) (eqb-true (repeat_place key (length es)) (length es) e))) ∙ f
    go false false e f = refl
    go false true e f = absurd (eqb-false (repeat_place key (length es)) (length es) e (distinct_repeat key (length es) (distinct_keys es key h f)))

-- ---- of entries in a row of bytes

module _ (b : List ℕ) (at n : ℕ) (known : (i : ℕ) → get_or b i 0 < 256) (h : at + 24 * n ≤ length b) where
  abbrev rows : List Entry
  rows = items (entry_at b) 24 at n

  keyed : (i : ℕ) → i < n → Keyed (key_of b (entry_spots at n) i) (row_at b at i)
  keyed = run_key b at n n known h (omega arith)

  rows_distinct : eqb (repeat_place (key_of b (entry_spots at n)) n) n ≡ distinct rows
  rows_distinct =
      let l : length rows ≡ n = length_items (entry_at b) 24 at n in
      let k : KeysOf (key_of b (entry_spots at n)) rows
      = λ i m.
      let g : i < n = omega arith in
      rw (get_or_items (entry_at b) 24 at n i no_entry g) (keyed i g) in
      rw l at (distinct_is rows (key_of b (entry_spots at n)) k)

  seen_distinct : eqb (first_to (λ i. seen_before (row_at b at) (row_at b at i) i) n) n ≡ distinct rows
  unfolding repeat_place
  seen_distinct =
      ap (λ (x : ℕ). eqb x n) (first_agree (λ i. seen_before (row_at b at) (row_at b at i) i) (again (key_of b (entry_spots at n))) n
      (λ i l. sym (seen_is (row_at b at) (key_of b (entry_spots at n)) (key_of b (entry_spots at n) i) (row_at b at i) (keyed i l) i (λ j m. keyed j (omega arith)))))
      ∙ rows_distinct

  module _ (s k : ℕ) where
    -- each fits after the one before it
    abbrev fitting : ℕ → Bool
    fitting j = eqb (first_to (unfit_at s k j (row_at b at)) n) n

    -- a good log: each fits, and no transaction stands twice
    pub good_two : good_log s k rows ≡ (fitting k && distinct rows)
    good_two =
        good_items s k b at n
        ∙ ap (λ (x : ℕ). eqb x n) (good_first s k (row_at b at) n ∙ first_agree (wrong_at s k (row_at b at)) (λ i. unfit_at s k k (row_at b at) i || seen_before (row_at b at) (row_at b at i) i) n (λ i l. wrong_is s k (row_at b at) i))
        ∙ first_or (unfit_at s k k (row_at b at)) (λ i. seen_before (row_at b at) (row_at b at i) i) n
        ∙ ap (λ (t : Bool). fitting k && t) seen_distinct

    -- a mask that lacks j is the second way to be unfit
    or_lacks : (fit follows own other : Bool) → not (fit && (follows && (own && other))) ≡ (not (fit && (follows && (own && own))) || not other)
    or_lacks false m x y = refl
    or_lacks true false x y = refl
    or_lacks true true false y = refl
    or_lacks true true true y = refl

    with_masks : (j : ℕ) → fitting j ≡ (fitting k && all_hold j rows)
    unfolding fits
    with_masks j =
        let f : ℕ → Entry = row_at b at in
        let lacks : ℕ → Bool = λ i. not (holds (f i).mask j) in
        ap (λ (x : ℕ). eqb x n) (first_agree (unfit_at s k j f) (λ i. unfit_at s k k f i || lacks i) n (λ i l. or_lacks (entry_fits s (f i)) (before (last_before f i) (f i)) (holds (f i).mask k) (holds (f i).mask j)))
        ∙ first_or (unfit_at s k k f) lacks n
        ∙ ap (λ (t : Bool). fitting k && t) (every_first (λ (e : Entry). holds e.mask j) (entry_at b) 24 at n (first_to lacks n) refl)

    -- a good log whose masks hold j too
    good_with : (j : ℕ) → (fitting j && distinct rows) ≡ (good_log s k rows && all_hold j rows)
    good_with j =
        ap (λ (t : Bool). t && distinct rows) (with_masks j)
        ∙ and_turn (fitting k) (all_hold j rows) (distinct rows)
        ∙ ap (λ (t : Bool). t && all_hold j rows) (sym good_two)

    pub unfit_for : (j : ℕ) (r : Bool) → r ≡ fitting j → not r ≡ true → false ≡ (good_log s k rows && all_hold j rows)
    unfit_for j r e q = ap (λ (t : Bool). t && distinct rows) (sym (sym e ∙ not-true r q)) ∙ good_with j

    pub fit_for : (j m : ℕ) (sp : Spots) (r : Bool) → r ≡ fitting j → not r ≡ false → sp ≡ entry_spots at n → m ≡ repeat_place (key_of b sp) (count_of sp) → eqb m n ≡ (good_log s k rows && all_hold j rows)
    fit_for j m sp r e q p g =
        let c : count_of (entry_spots at n) ≡ n = omega arith in
        ap (λ (x : ℕ). eqb x n) (g ∙ ap (λ (x : Spots). repeat_place (key_of b x) (count_of x)) p ∙ ap (repeat_place (key_of b (entry_spots at n))) c)
        ∙ rows_distinct
        ∙ ap (λ (t : Bool). t && distinct rows) (sym (sym e ∙ not-false r q))
        ∙ good_with j

-- ---- of three tables

-- the keys of the entries of three tables
abbrev pub three_runs : ℕ → ℕ → ℕ → ℕ → ℕ → ℕ → Spots
three_runs x l y m z n = record { first = record { at = x + 20; count = l }; second = record { at = y + 20; count = m }; third = record { at = z + 20; count = n }; stride = 24 }

-- past a list's end stands what comes after it
past_end : {A : Type 0} (xs ys : List A) (d : A) (n i : ℕ) → length xs ≡ n → n ≤ i → get_or (xs ++ ys) i d ≡ get_or ys (i - n) d
past_end xs ys d n i e h =
    let q : i ≡ length xs + (i - n) = omega arith in
    ap (λ (j : ℕ). get_or (xs ++ ys) j d) q ∙ get_or-append-add xs ys (i - n) d

module _ (b : List ℕ) (c : ℕ) (known : (i : ℕ) → get_or b i 0 < 256) where
  -- entry i of a table's run
  abbrev run_of : ℕ → ℕ → List Entry
  run_of at n = items (entry_at b) 24 (at + 4) n

  table_key : (at n i spot : ℕ) (e : Entry) → Within c b at → n ≤ c → i < n → at + 20 + 24 * i ≡ spot → e ≡ get_or (run_of at n) i no_entry → Keyed (num b spot 6) e
  table_key at n i spot e w r l p q =
      let g : e ≡ entry_at b (at + 4 + 24 * i) = q ∙ get_or_items (entry_at b) 24 (at + 4) n i no_entry l in
      rw g (keyed_at b (at + 4 + 24 * i) spot (num b spot 6) (bytes_known b known) (omega (arith, w.ends)) (omega arith) refl)

  module _ (x l y m z n : ℕ) (wx : Within c b x) (wy : Within c b y) (wz : Within c b z) (el : l ≡ num b x 4) (em : m ≡ num b y 4) (en : n ≡ num b z 4) where
    abbrev three : List Entry
    three = run_of x l ++ (run_of y m ++ run_of z n)

    long_three : length three ≡ l + m + n
    long_three = simp (length-append, length_items) (omega arith)

    abbrev sp : Spots
    sp = three_runs x l y m z n

    key_later : (i : ℕ) → i < l + m + n → l ≤ i → Dec (i - l < m) → Keyed (key_of b sp i) (entry_of three i)
    unfolding key_of
    key_later i h f (yes g) =
        table_key y m (i - l) (spot_of sp i) (entry_of three i) wy (omega (arith, wy.room)) g (spot_second sp i f g)
        (past_end (run_of x l) (run_of y m ++ run_of z n) no_entry l i (length_items (entry_at b) 24 (x + 4) l) f
        ∙ get_or-append (run_of y m) (run_of z n) no_entry (i - l) (rw (length_items (entry_at b) 24 (y + 4) m) g))
    key_later i h f (no g) =
        let k : m ≤ i - l = omega (arith, g) in
        table_key z n (i - l - m) (spot_of sp i) (entry_of three i) wz (omega (arith, wz.room)) (omega arith) (spot_third sp i f k)
        (past_end (run_of x l) (run_of y m ++ run_of z n) no_entry l i (length_items (entry_at b) 24 (x + 4) l) f
        ∙ past_end (run_of y m) (run_of z n) no_entry m (i - l) (length_items (entry_at b) 24 (y + 4) m) k)

    key_any : (i : ℕ) → i < l + m + n → Dec (i < l) → Keyed (key_of b sp i) (entry_of three i)
    unfolding key_of
    key_any i h (yes f) =
        table_key x l i (spot_of sp i) (entry_of three i) wx (omega (arith, wx.room)) f (spot_first sp i f)
        (get_or-append (run_of x l) (run_of y m ++ run_of z n) no_entry i (rw (length_items (entry_at b) 24 (x + 4) l) f))
    key_any i h (no f) = key_later i h (omega (arith, f)) (dec_lt (i - l) m)

    pub three_distinct : (r : ℕ) → r ≡ repeat_place (key_of b sp) (count_of sp) → eqb r (l + m + n) ≡ distinct (table_at c b x ++ (table_at c b y ++ table_at c b z))
    three_distinct r q =
        let d : eqb (repeat_place (key_of b sp) (length three)) (length three) ≡ distinct three = distinct_is three (key_of b sp) (λ i h. key_any i (rw long_three at h) (dec_lt i l)) in
        let d' : eqb (repeat_place (key_of b sp) (l + m + n)) (l + m + n) ≡ distinct three = rw long_three at d in
        rw (q, table_run c b x l wx.room el, table_run c b y m wy.room em, table_run c b z n wz.room en) d'
