-- The buffers and the notes: no transaction twice, and what the notes say of early entries. Assumes nothing.
use Prim.Native.Nat.{ℕ, ◌+◌, ◌*◌, ◌≤◌, ◌<◌}
use mathlib.Core.Path.{◌≡◌, refl, sym, ap, ap₂, ◌∙◌}
use mathlib.Core.Bool.{Bool, true, false, ◌&&◌, not, and-false}
use mathlib.Core.Option.{Option, none, some}
use mathlib.Core.List.{List, [], ◌∷◌, ◌++◌}
use native.Mathlib.Omega.{arith}
use lib.ListN.{length, get_or}
use lib.Dec.{eqb}
use borrow.Author.Tests.{eq-eqb, ne_eqb, not-true, not-false}
use Rattle.octets.specs.Bytes.{num, part}
use Rattle.octets.proofs.Logic.{and_cross}
use Rattle.rules.specs.Choice.{pick, all_of, every}
use Rattle.rules.specs.Group.{holds}
use Rattle.rules.specs.Entry.{no_entry, same_txn, among, entry_fits, before}
use Rattle.rules.specs.Log.{last_of, rise_from, good_log, all_hold, distinct}
use Rattle.rules.specs.State.{Note, State, leads, noted, noted_to, greatest_to, buffers_good, early_good, notes_distinct}
use Rattle.rules.specs.State as rule
use Rattle.rules.specs.Image.{note_length, state_length, table_at, state_of, at_early, at_late, at_log, at_notes}
use Rattle.rules.specs.declared.Entry.{Entry}
use Rattle.rules.specs.declared.Shape.{Shape}
use Rattle.rules.proofs.Choice.{or_left, any_append, all_map, truth}
use Rattle.rules.proofs.InOrder.{buffers_ordered, fits_ordered}
use Rattle.rules.proofs.Logs.{after_nothing}
use Rattle.rules.proofs.Tests.{and_l, and_r, and_both, split, join, ◌also◌, each, each_of, each_front, each_back, each_append}
use Rattle.logs.specs.Place.{fits, fit_from, Within}
use Rattle.notes.specs.Notes.{note_in, notes_at, row, said, sized, Notes}
use Rattle.std.specs.Prelude as rust
use Rattle.std.specs.Prelude.{Some, None}
use Rattle.notes.proofs.Row.{ask_found, ask_none}
use Rattle.places.specs.Layout.{start_of}
use Rattle.good.specs.Known.{noted_right, entries_good, early_right, notes_right, Lent, asked}
use Rattle.places.proofs.Fields.{fields}

-- ---- what the notes say of an entry

module _ (c s : ℕ) (xs : List Note) (e : Entry) (i : ℕ) (q : i ≡ row e.request e.coordinator xs) where
  agreed_by : (a : Bool) → i < length xs → a ≡ noted_to e.mask (note_in xs i).stamps s → a ≡ rule.agreed (sized c s) xs e
  agreed_by a l p = ask_found (λ (ts : List (Option ℕ)). noted_to e.mask ts s) e xs i q a l p

  pub agreed_stamp : (own g : ℕ) (a : Bool) → i < length xs → a ≡ noted_to e.mask (note_in xs i).stamps s → a ≡ true → g ≡ greatest_to e.mask (note_in xs i).stamps s → eqb e.stamp g ≡ eqb e.stamp (pick (rule.agreed (sized c s) xs e) (rule.greatest (sized c s) xs e) own)
  unfolding pick
  agreed_stamp own g a l p k r =
      let d : g ≡ rule.greatest (sized c s) xs e = ask_found (λ (ts : List (Option ℕ)). greatest_to e.mask ts s) e xs i q g l r in
      rw (sym (agreed_by a l p) ∙ k, d)

  pub own_stamp : (own : ℕ) (a : Bool) → i < length xs → a ≡ noted_to e.mask (note_in xs i).stamps s → a ≡ false → eqb e.stamp own ≡ eqb e.stamp (pick (rule.agreed (sized c s) xs e) (rule.greatest (sized c s) xs e) own)
  unfolding pick
  own_stamp own a l p k = rw (sym (agreed_by a l p) ∙ k)

  said_by : (k : ℕ) (p : rust.Option ℕ) → i < length xs → said p ≡ get_or (note_in xs i).stamps k none → said p ≡ noted xs e k
  said_by k p l w = ask_found (λ (ts : List (Option ℕ)). get_or ts k none) e xs i q (said p) l w

-- the ways through the test of an entry whose note is note i of n
module _ (c s : ℕ) (t : List ℕ) (h : Notes c s t) (e : Entry) (i n : ℕ) (q : i ≡ row e.request e.coordinator (notes_at c s t)) (m : n ≡ num t 0 4) where
  abbrev those : List Note
  those = notes_at c s t

  pub no_note : (k : ℕ) → n ≤ i → false ≡ noted_right s those k e
  unfolding noted_right
  no_note k l =
      let j : length those ≤ i = omega (arith, h.count) in
      let z : noted those e k ≡ none = sym (ask_none (λ (ts : List (Option ℕ)). get_or ts k none) e those i q none j refl) in
      rw z

  pub not_noted : (k : ℕ) (p : rust.Option ℕ) → i < n → said p ≡ get_or (note_in those i).stamps k none → p ≡ None → false ≡ noted_right s those k e
  unfolding noted_right
  not_noted k p l w u =
      let j : i < length those = omega (arith, h.count) in
      let z : noted those e k ≡ none = sym (said_by c s those e i q k p j w) ∙ ap said u in
      rw z

  pub was_noted : (k own : ℕ) (p : rust.Option ℕ) (r : Bool) → i < n → said p ≡ get_or (note_in those i).stamps k none → p ≡ Some own → r ≡ eqb e.stamp (pick (rule.agreed (sized c s) those e) (rule.greatest (sized c s) those e) own) → r ≡ noted_right s those k e
  unfolding noted_right
  was_noted k own p r l w u g =
      let j : i < length those = omega (arith, h.count) in
      let z : noted those e k ≡ some own = sym (said_by c s those e i q k p j w) ∙ ap said u in
      rw z g

-- ---- the rules' tests

-- a table that stands where it is said to
pub within_at : (c : ℕ) (b : List ℕ) (at place : ℕ) → at ≡ place → Within c b place → Within c b at
within_at c b at place e w = rw e w

-- what fits of entries, as three tests
module _ (s k : ℕ) where
  every_and : (p q : Entry → Bool) (xs : List Entry) → every (λ e. p e && q e) xs ≡ (every p xs && every q xs)
  unfolding every
  every_and p q [] = refl
  every_and p q (x ∷ xs) = ap (λ (t : Bool). (p x && q x) && t) (every_and p q xs) ∙ and_cross (p x) (q x) (every p xs) (every q xs)

  -- they lie after an entry and, where it is asked, each after the one before it
  abbrev follow : Bool → Entry → List Entry → Bool
  follow ordered last xs = pick ordered (rise_from last xs) (every (before last) xs)

  -- entries that fit: in range, after an entry, their masks with k
  record Fit (ordered : Bool) (last : Entry) (xs : List Entry) : Type 0 where
    ranges : every (entry_fits s) xs ≡ true
    after : follow ordered last xs ≡ true
    masks : all_hold k xs ≡ true

  fits_all : (last : Entry) (xs : List Entry) → every (fits s k k last) xs ≡ (every (entry_fits s) xs && (every (before last) xs && (all_hold k xs && all_hold k xs)))
  unfolding fits
  fits_all last xs =
      every_and (entry_fits s) (λ e. before last e && (holds e.mask k && holds e.mask k)) xs
      ∙ ap (λ (t : Bool). every (entry_fits s) xs && t)
      (every_and (before last) (λ e. holds e.mask k && holds e.mask k) xs
      ∙ ap (λ (t : Bool). every (before last) xs && t) (every_and (λ e. holds e.mask k) (λ e. holds e.mask k) xs))

  fits_from : (last : Entry) (xs : List Entry) → fit_from s k last xs ≡ (every (entry_fits s) xs && (rise_from last xs && (all_hold k xs && all_hold k xs)))
  unfolding fits fit_from rise_from every
  fits_from last [] = refl
  fits_from last (x ∷ xs) =
      let m : Bool = holds x.mask k in
      let r : Bool = rise_from x xs in
      let h : Bool = all_hold k xs in
      ap (λ (t : Bool). fits s k k last x && t) (fits_from x xs)
      ∙ and_cross (entry_fits s x) (before last x && (m && m)) (every (entry_fits s) xs) (r && (h && h))
      ∙ ap (λ (t : Bool). (entry_fits s x && every (entry_fits s) xs) && t)
      (and_cross (before last x) (m && m) r (h && h) ∙ ap (λ (t : Bool). (before last x && r) && t) (and_cross m m h h))

  -- what is found of them, with the order asked or not
  abbrev found : Bool → Entry → List Entry → Bool
  found ordered last xs = pick ordered (fit_from s k last xs) (every (fits s k k last) xs)

  found_all : (ordered : Bool) (last : Entry) (xs : List Entry) → found ordered last xs ≡ (every (entry_fits s) xs && (follow ordered last xs && (all_hold k xs && all_hold k xs)))
  unfolding pick
  found_all true last xs = fits_from last xs
  found_all false last xs = fits_all last xs

  module _ (ordered : Bool) (last : Entry) (xs : List Entry) where
    fit : found ordered last xs ≡ true → Fit ordered last xs
    fit h =
        let a : Bool = every (entry_fits s) xs in
        let b : Bool = follow ordered last xs in
        let m : Bool = all_hold k xs in
        let q : (a && (b && (m && m))) ≡ true = sym (found_all ordered last xs) ∙ h in
        let r : (b && (m && m)) ≡ true = and_r a (b && (m && m)) q in
        record { ranges = and_l a (b && (m && m)) q; after = and_l b (m && m) r; masks = and_l m m (and_r b (m && m) r) }

    fit_so : Fit ordered last xs → found ordered last xs ≡ true
    fit_so w = found_all ordered last xs ∙ and_both _ _ w.ranges (and_both _ _ w.after (and_both _ _ w.masks w.masks))

  from_none : (xs : List Entry) → every (entry_fits s) xs ≡ true → follow false no_entry xs ≡ true
  unfolding pick
  from_none xs h = each_of (before no_entry) xs (all_map (after_nothing s) xs (each (entry_fits s) xs h))

-- a list's front has no transaction twice where the list has none
distinct_front : (xs ys : List Entry) → distinct (xs ++ ys) ≡ true → distinct xs ≡ true
unfolding distinct
distinct_front [] ys h = refl
distinct_front (x ∷ xs) ys h =
    let n : among (xs ++ ys) x ≡ false = not-true _ (and_l (not (among (xs ++ ys) x)) (distinct (xs ++ ys)) h) in
    let m : among xs x ≡ false = or_left (among xs x) (among ys x) (sym (any_append (same_txn x) xs ys) ∙ n) in
    and_both _ _ (ap not m) (distinct_front xs ys (and_r (not (among (xs ++ ys) x)) (distinct (xs ++ ys)) h))

-- what is asked of log and buffers, the order of early or not
module _ (sh : Shape) (st : State) where
  abbrev buffers_wanted : Bool → Bool
  buffers_wanted ordered =
      all_of
      (distinct (st.logged.log ++ (st.waiting.early ++ st.waiting.late))
      ∷ follow sh.s st.site.group ordered (last_of st.logged.log) st.waiting.early
      ∷ all_hold st.site.group (st.waiting.early ++ st.waiting.late)
      ∷ [])

  abbrev wanted : Bool → Bool
  wanted ordered = good_log sh.s st.site.group st.logged.log && (buffers_wanted ordered && every (entry_fits sh.s) (st.waiting.early ++ st.waiting.late))

  wanted_is : (ordered : Bool) → wanted ordered ≡ entries_good sh (asked ordered st)
  unfolding entries_good buffers_good pick
  wanted_is true = refl
  wanted_is false = ap₂ (λ (x y : Bool). good_log sh.s st.site.group st.logged.log && (x && y)) (sym (buffers_ordered st)) (sym (fits_ordered st sh))

-- log and buffers: one pass over each and a test for repeats say what the rules ask
module _ (sh : Shape) (st : State) (ordered : Bool) (last empty : Entry) (log early late apart : Bool) (e0 : (log && distinct st.logged.log) ≡ good_log sh.s st.site.group st.logged.log) (e1 : last ≡ last_of st.logged.log) (n1 : empty ≡ no_entry)
    (e2 : early ≡ found sh.s st.site.group ordered last st.waiting.early) (e3 : late ≡ found sh.s st.site.group false empty st.waiting.late) (e4 : apart ≡ distinct (st.logged.log ++ (st.waiting.early ++ st.waiting.late))) where
  follows_is : follow sh.s st.site.group ordered last st.waiting.early ≡ follow sh.s st.site.group ordered (last_of st.logged.log) st.waiting.early
  follows_is = ap (λ (x : Entry). follow sh.s st.site.group ordered x st.waiting.early) e1

  to_entries : (log && (early && (late && apart))) ≡ true → wanted sh st ordered ≡ true
  to_entries h =
      let k = st.site.group in
      let h1 : (early && (late && apart)) ≡ true = and_r log (early && (late && apart)) h in
      let h2 : (late && apart) ≡ true = and_r early (late && apart) h1 in
      let d : distinct (st.logged.log ++ (st.waiting.early ++ st.waiting.late)) ≡ true = sym e4 ∙ and_r late apart h2 in
      let f : Fit sh.s k ordered last st.waiting.early = fit sh.s k ordered last st.waiting.early (sym e2 ∙ and_l early (late && apart) h1) in
      let g : Fit sh.s k false empty st.waiting.late = fit sh.s k false empty st.waiting.late (sym e3 ∙ and_l late apart h2) in
      and_both _ _ (sym e0 ∙ and_both _ _ (and_l log (early && (late && apart)) h) (distinct_front st.logged.log (st.waiting.early ++ st.waiting.late) d))
      (and_both _ _ (join _ (d also sym follows_is ∙ f.after also each_append (λ (e : Entry). holds e.mask k) st.waiting.early st.waiting.late f.masks g.masks also tt))
      (each_append (entry_fits sh.s) st.waiting.early st.waiting.late f.ranges g.ranges))

  from_entries : wanted sh st ordered ≡ true → (log && (early && (late && apart))) ≡ true
  from_entries h =
      let k = st.site.group in
      let fit-ones : Bool = every (entry_fits sh.s) (st.waiting.early ++ st.waiting.late) in
      let h1 : (buffers_wanted sh st ordered && fit-ones) ≡ true = and_r (good_log sh.s k st.logged.log) (buffers_wanted sh st ordered && fit-ones) h in
      let r : fit-ones ≡ true = and_r (buffers_wanted sh st ordered) fit-ones h1 in
      let u = split _ (and_l (buffers_wanted sh st ordered) fit-ones h1) in
      let m : all_hold k st.waiting.early ≡ true = each_front (λ (e : Entry). holds e.mask k) st.waiting.early st.waiting.late (u 2) in
      let n : all_hold k st.waiting.late ≡ true = each_back (λ (e : Entry). holds e.mask k) st.waiting.early st.waiting.late (u 2) in
      let f : Fit sh.s k ordered last st.waiting.early = record { ranges = each_front (entry_fits sh.s) st.waiting.early st.waiting.late r; after = follows_is ∙ u 1; masks = m } in
      let z : every (entry_fits sh.s) st.waiting.late ≡ true = each_back (entry_fits sh.s) st.waiting.early st.waiting.late r in
      let g : Fit sh.s k false empty st.waiting.late = record { ranges = z; after = rw n1 (from_none sh.s k st.waiting.late z); masks = n } in
      and_both _ _ (and_l log (distinct st.logged.log) (e0 ∙ and_l (good_log sh.s k st.logged.log) (buffers_wanted sh st ordered && fit-ones) h))
      (and_both _ _ (e2 ∙ fit_so sh.s k ordered last st.waiting.early f) (and_both _ _ (e3 ∙ fit_so sh.s k false empty st.waiting.late g) (e4 ∙ u 0)))

  entries_test : (log && (early && (late && apart))) ≡ entries_good sh (asked ordered st)
  entries_test = truth _ _ to_entries from_entries ∙ wanted_is sh st ordered

module _ (sh : Shape) (b : List ℕ) (z : length b ≡ state_length sh) where
  pub entries_are : (l3 l4 l5 group : ℕ) (ordered : Bool) (last empty : Entry) (log early late apart : Bool) → l3 ≡ start_of sh at_log → l4 ≡ start_of sh at_early → l5 ≡ start_of sh at_late → group ≡ num b 0 1 → last ≡ last_of (table_at sh.c b l3) → empty ≡ no_entry
      → (log && distinct (table_at sh.c b l3)) ≡ good_log sh.s group (table_at sh.c b l3) → early ≡ found sh.s group ordered last (table_at sh.c b l4) → late ≡ found sh.s group false empty (table_at sh.c b l5)
      → apart ≡ distinct (table_at sh.c b l3 ++ (table_at sh.c b l4 ++ table_at sh.c b l5)) → (log && (early && (late && apart))) ≡ entries_good sh (asked ordered (state_of sh b))
  entries_are l3 l4 l5 group ordered last empty log early late apart p3 p4 p5 g e1 n1 a1 a2 a3 a4 =
      let f = fields sh b z in
      let st = state_of sh b in
      let t3 : table_at sh.c b l3 ≡ st.logged.log = ap (table_at sh.c b) p3 ∙ sym f.log in
      let t4 : table_at sh.c b l4 ≡ st.waiting.early = ap (table_at sh.c b) p4 ∙ sym f.early in
      let t5 : table_at sh.c b l5 ≡ st.waiting.late = ap (table_at sh.c b) p5 ∙ sym f.late in
      let k : group ≡ st.site.group = g ∙ sym f.group in
      entries_test sh st ordered last empty log early late apart (rw (t3, k) at a1) (rw t3 at e1) n1 (rw (t4, k) at a2) (rw (t5, k) at a3) (rw (t3, t4, t5) at a4)

  module _ (t : List ℕ) (u : t ≡ part b (start_of sh at_notes) (4 + note_length sh.s * sh.c)) where
    pub notes_are : notes_at sh.c sh.s t ≡ (state_of sh b).waiting.notes
    notes_are = ap (notes_at sh.c sh.s) u ∙ sym (fields sh b z).notes

    pub early_is : (at k : ℕ) (r : Bool) → at ≡ start_of sh at_early → k ≡ num b 0 1 → r ≡ every (noted_right sh.s (notes_at sh.c sh.s t) k) (table_at sh.c b at) → r ≡ every (early_good sh (state_of sh b)) (state_of sh b).waiting.early
    unfolding noted_right early_good
    early_is at k r p g h =
        let f = fields sh b z in
        h ∙ rw (notes_are, g ∙ sym f.group, ap (table_at sh.c b) p ∙ sym f.early)

  pub early_idle : (status : ℕ) → status ≡ num b 2 1 → (status ≡ 1 → ⊥) → true ≡ early_right sh (state_of sh b)
  unfolding early_right
  early_idle status e h =
      let g : eqb (state_of sh b).view.status 1 ≡ false = ap (λ (y : ℕ). eqb y 1) ((fields sh b z).status ∙ sym e) ∙ ne_eqb status 1 h in
      rw g

  pub early_follower : (l : Bool) → l ≡ leads sh (state_of sh b) → not l ≡ true → true ≡ early_right sh (state_of sh b)
  unfolding early_right
  early_follower l e h = let g : leads sh (state_of sh b) ≡ false = sym e ∙ not-true l h in rw (g, and-false)

  pub early_leader : (status : ℕ) (l r : Bool) → status ≡ num b 2 1 → status ≡ 1 → l ≡ leads sh (state_of sh b) → not l ≡ false → r ≡ every (early_good sh (state_of sh b)) (state_of sh b).waiting.early → r ≡ early_right sh (state_of sh b)
  unfolding early_right
  early_leader status l r e h p q w =
      let g : eqb (state_of sh b).view.status 1 ≡ true = ap (λ (y : ℕ). eqb y 1) ((fields sh b z).status ∙ sym e) ∙ eq-eqb status 1 h in
      let k : leads sh (state_of sh b) ≡ true = sym p ∙ not-false l q in
      rw (g, k) w

  -- the notes and what they say
  module _ (t : List ℕ) (w : Lent sh b t) where
    told : notes_distinct (notes_at sh.c sh.s t) ≡ notes_distinct (state_of sh b).waiting.notes
    told = ap notes_distinct (notes_are t w.is)

    pub notes_twice : (a : Bool) → a ≡ notes_distinct (notes_at sh.c sh.s t) → not a ≡ true → false ≡ notes_right sh (state_of sh b)
    unfolding notes_right
    notes_twice a e h = let d : notes_distinct (state_of sh b).waiting.notes ≡ false = sym (e ∙ told) ∙ not-true a h in rw d

    pub notes_once : (a r : Bool) → a ≡ notes_distinct (notes_at sh.c sh.s t) → not a ≡ false → r ≡ early_right sh (state_of sh b) → r ≡ notes_right sh (state_of sh b)
    unfolding notes_right
    notes_once a r e h q = let d : notes_distinct (state_of sh b).waiting.notes ≡ true = sym (e ∙ told) ∙ not-false a h in rw d q
