-- Bytes are those of a good state where each test says so. Assumes nothing.
use Prim.Native.Nat.{ℕ, ◌+◌, ◌-◌, ◌*◌, ◌≤◌, ◌<◌}
use mathlib.Core.Path.{◌≡◌, refl, sym, ap, ap₂, subst, ◌∙◌}
use mathlib.Core.Bool.{Bool, true, false, ◌&&◌, not, and_assoc, and-true, and-false}
use mathlib.Core.List.{List, [], ◌∷◌, ◌++◌}
use native.Mathlib.Omega.{arith}
use lib.ListN.{length, take, drop}
use lib.Dec.{eqb, leb}
use borrow.Author.Tests.{eq-eqb, ltb-true, not-true, not-false}
use Rattle.octets.specs.Bytes.{num, part}
use Rattle.octets.proofs.Laws.{Bytes, bytes_part, length_part, num_part}
use Rattle.rules.specs.Choice.{pick, all_of, when, every, same}
use Rattle.rules.specs.Group.{shape_fits}
use Rattle.rules.specs.Entry.{entry_fits}
use Rattle.rules.specs.Log.{good_log}
use Rattle.rules.specs.State.{State, in_order, leads, view_good, heard_good, kept_good, counts_good, buffers_good, note_fits, notes_distinct, ranges_good, places_good, good}
use Rattle.rules.specs.Image.{table_length, note_length, state_length, table_bytes, notes_section, image, table_at, state_in, state_of, good_bytes, orderable, at_draft, at_early, at_late, at_log, at_notes, at_votes}
use Rattle.rules.specs.declared.Shape.{Shape}
use Rattle.rules.proofs.Choice.{truth}
use Rattle.rules.proofs.InOrder.{view_ordered, heard_ordered, kept_ordered, counts_ordered, early_ordered, places_ordered}
use Rattle.rules.proofs.Tests.{and_l, and_r, and_both, split, join, ◌also◌, same_true}
use Rattle.entries.proofs.Table.{count_table}
use Rattle.logs.specs.Place.{Within}
use Rattle.notes.specs.Notes.{notes_at, sized, Notes}
use Rattle.notes.proofs.Notes.{section_of, hold_section}
use Rattle.places.specs.Layout.{start_of, Sized}
use Rattle.form.specs.Sections.{section_form, tables_form}
use Rattle.form.proofs.Whole.{all_form}
use Rattle.good.specs.Known.{head_fits, points_good, entries_good, early_right, notes_right, Lent, Formed, rest_good, asked, judged}
use Rattle.places.proofs.Fields.{fields}
use Rattle.good.proofs.Apart.{notes_are}
use Rattle.good.proofs.Counts.{table_within, notes_within, notes_fit, counts_good_lem, places_good_lem}

-- ---- bytes that are the form of the state in them

-- a table whose bytes are its form has no more entries than room
room_at : (c : ℕ) (b : List ℕ) (a at : ℕ) → at ≡ a → c ≤ 4096 → a + table_length c ≤ length b → same (table_bytes c (table_at c (part b a (table_length c)) 0)) (part b a (table_length c)) ≡ true → Within c b at
room_at c b a at q s l h =
    let x : List ℕ = part b a (table_length c) in
    let w : length (table_at c x 0) ≤ c = table_within c x 0 in
    let n : num x 0 4 ≡ length (table_at c x 0) = ap (λ (y : List ℕ). num y 0 4) (sym (same_true _ _ h)) ∙ count_table c (table_at c x 0) (omega arith) in
    let k : num x 0 4 ≡ num b at 4 = num_part b a (table_length c) 0 at 4 l (omega arith) (omega arith) in
    record { ends = omega arith; room = omega arith }

module _ (sh : Shape) (b : List ℕ) (s : Sized sh b) (bs : Bytes b) (e : tables_form sh b ≡ true) (ne : section_form sh b 6 ≡ true) where
  -- section 3, 4 or 5 has its form
  log_form : section_form sh b 3 ≡ true
  unfolding tables_form
  log_form = split _ e 2

  early_form : section_form sh b 4 ≡ true
  unfolding tables_form
  early_form = split _ e 3

  late_form : section_form sh b 5 ≡ true
  unfolding tables_form
  late_form = split _ e 4

  abbrev notes_part : ℕ → List ℕ
  notes_part a = part b a (4 + note_length sh.s * sh.c)

  notes_form : (a : ℕ) → a + (4 + note_length sh.s * sh.c) ≤ length b → same (notes_section sh (notes_at sh.c sh.s (notes_part a))) (notes_part a) ≡ true → Notes sh.c sh.s (notes_part a)
  notes_form a l h =
      let m : sh.c ≤ 4096 = s.fits.small in
      let g : sh.s ≤ 8 = s.fits.few in
      hold_section sh (notes_at sh.c sh.s (notes_part a)) (notes_part a) (sym (same_true _ _ h))
      (record { room = notes_within sh.c sh.s (notes_part a); counted = omega arith; each = notes_fit (notes_part a) (bytes_part b a _ bs) sh.c sh.s (length_part b a _ l) })
      m g

  pub formed : head_fits sh (state_of sh b) ≡ true → Formed sh b
  unfolding section_form state_of state_in notes_at head_fits
  formed h =
      let z : length b ≡ state_length sh = s.size in
      let m : sh.c ≤ 4096 = s.fits.small in
      let t : ℕ = table_length sh.c in
      let a3 : ℕ = 0 + 48 + 4 * sh.s + 9 * sh.n in
      let a6 : ℕ = a3 + t + t + t in
      let q : a6 ≡ start_of sh at_notes = omega arith in
      let g : (state_of sh b).site.group < sh.s = ltb-true _ _ (split _ h 0) in
      let k : (state_of sh b).site.group ≡ num b 0 1 = (fields sh b z).group in
      record {
        known = record { sized = s; group = omega arith };
        log = room_at sh.c b a3 (start_of sh at_log) (omega arith) m (omega arith) log_form;
        early = room_at sh.c b (a3 + t) (start_of sh at_early) (omega arith) m (omega arith) early_form;
        late = room_at sh.c b (a3 + t + t) (start_of sh at_late) (omega arith) m (omega arith) late_form;
        notes = subst (λ (a : ℕ). Notes sh.c sh.s (notes_part a)) q (notes_form a6 (omega arith) ne);
      }

-- ---- the notes lent as a slice of their own

module _ (sh : Shape) (b : List ℕ) (from upto : ℕ) where
  pub notes_lent : from ≡ start_of sh at_notes → upto ≡ start_of sh at_votes → take (upto - from) (drop from b) ≡ part b (start_of sh at_notes) (4 + note_length sh.s * sh.c)
  unfolding part
  notes_lent e f =
      let m : upto - from ≡ 4 + note_length sh.s * sh.c = omega arith in
      ap₂ (λ (x y : ℕ). take x (drop y b)) m e

  pub lent_notes : Notes sh.c sh.s (part b (start_of sh at_notes) (4 + note_length sh.s * sh.c)) → from ≡ start_of sh at_notes → upto ≡ start_of sh at_votes → Lent sh b (take (upto - from) (drop from b))
  lent_notes h e f = record { notes = subst (λ (t : List ℕ). Notes sh.c sh.s t) (sym (notes_lent e f)) h; is = notes_lent e f }

  -- what is found of them, said of the section
  pub section_fits : length b ≡ state_length sh → (r : Bool) → from ≡ start_of sh at_notes → upto ≡ start_of sh at_votes
      → r ≡ (same (notes_section (sized sh.c sh.s) (notes_at sh.c sh.s (take (upto - from) (drop from b)))) (take (upto - from) (drop from b)) && every note_fits (notes_at sh.c sh.s (take (upto - from) (drop from b))))
      → r ≡ (section_form sh b 6 && every note_fits (state_of sh b).waiting.notes)
  unfolding section_form
  section_fits z r e f h =
      let t : List ℕ = take (upto - from) (drop from b) in
      let xs : notes_at sh.c sh.s t ≡ (state_of sh b).waiting.notes = notes_are sh b z t (notes_lent e f) in
      let k : ℕ = table_length sh.c in
      let q : start_of sh at_notes ≡ 0 + 48 + 4 * sh.s + 9 * sh.n + k + k + k = omega arith in
      let y : t ≡ part b (0 + 48 + 4 * sh.s + 9 * sh.n + k + k + k) (4 + note_length sh.s * sh.c) = notes_lent e f ∙ ap (λ (j : ℕ). part b j (4 + note_length sh.s * sh.c)) q in
      h ∙ ap₂ ◌&&◌ (ap₂ same (ap (notes_section (sized sh.c sh.s)) xs ∙ sym (section_of sh (state_of sh b).waiting.notes)) y) (ap (every note_fits) xs)

-- ---- the twelve together

module _ (sh : Shape) (st : State) (counts : counts_good sh st ≡ true) (places : places_good sh st ≡ true) where
  to_good : (head_fits sh st && (every note_fits st.waiting.notes && rest_good sh st)) ≡ true → good sh st ≡ true
  unfolding good ranges_good head_fits rest_good points_good entries_good notes_right early_right
  to_good e =
      let h = split _ (and_l (head_fits sh st) (every note_fits st.waiting.notes && rest_good sh st) e) in
      let n = and_r (head_fits sh st) (every note_fits st.waiting.notes && rest_good sh st) e in
      let r = split _ (and_r (every note_fits st.waiting.notes) (rest_good sh st) n) in
      let w = and_r (good_log sh.s st.site.group st.logged.log) (buffers_good st && every (entry_fits sh.s) (st.waiting.early ++ st.waiting.late)) (r 5) in
      let ranges : ranges_good sh st ≡ true = join _ (h 0 also h 1 also h 2 also h 3 also h 4 also h 5 also and_r (buffers_good st) _ w also and_l (every note_fits st.waiting.notes) (rest_good sh st) n also and_l (notes_distinct st.waiting.notes) _ (r 6) also tt) in
      join _ (and_l (good_log sh.s st.site.group st.logged.log) (buffers_good st && every (entry_fits sh.s) (st.waiting.early ++ st.waiting.late)) (r 5) also r 1 also and_l (leb st.logged.commit st.logged.sync) (leb st.logged.sync (length st.logged.log)) (r 2) also and_r (leb st.logged.commit st.logged.sync) (leb st.logged.sync (length st.logged.log)) (r 2) also r 3 also r 0 also r 4 also counts also and_l (buffers_good st) _ w also and_r (notes_distinct st.waiting.notes) _ (r 6) also ranges also places also tt)

  from_good : good sh st ≡ true → (head_fits sh st && (every note_fits st.waiting.notes && rest_good sh st)) ≡ true
  unfolding good ranges_good head_fits rest_good points_good entries_good notes_right early_right
  from_good e =
      let g = split _ e in
      let q = split _ (g 10) in
      and_both _ _ (join _ (q 0 also q 1 also q 2 also q 3 also q 4 also q 5 also tt))
      (and_both _ _ (q 7)
      (join _ (g 5 also g 1 also and_both _ _ (g 2) (g 3) also g 4 also g 6 also and_both _ _ (g 0) (and_both _ _ (g 8) (q 6)) also and_both _ _ (q 8) (g 9) also tt)))

  good_is : good sh st ≡ (head_fits sh st && (every note_fits st.waiting.notes && rest_good sh st))
  good_is = truth _ _ from_good to_good

-- ---- the state of which it is asked: what its order of early does not touch

module _ (sh : Shape) (ordered : Bool) (st : State) where
  asked_same : {A : Type 0} (f : State → A) → f (in_order st) ≡ f st → f (asked ordered st) ≡ f st
  unfolding pick
  asked_same f e = go ordered
    where
      go : (t : Bool) → f (pick t st (in_order st)) ≡ f st
      go true = refl
      go false = e

  head_asked : head_fits sh (asked ordered st) ≡ head_fits sh st
  unfolding head_fits
  head_asked = asked_same (head_fits sh) refl

  notes_asked : notes_right sh (in_order st) ≡ notes_right sh st
  unfolding notes_right early_right
  notes_asked = ap (λ (t : Bool). notes_distinct st.waiting.notes && when (eqb st.view.status 1 && leads sh st) t) (early_ordered st sh)

  points_asked : points_good (in_order st) ≡ points_good st
  unfolding points_good
  points_asked = refl

  -- the tests as they are made
  abbrev rest_asked : Bool
  rest_asked =
      all_of
      (heard_good sh st
      ∷ good_log sh.s st.site.group st.change.draft
      ∷ points_good st
      ∷ view_good sh st
      ∷ kept_good sh st
      ∷ entries_good sh (asked ordered st)
      ∷ notes_right sh st
      ∷ [])

  rest_asked_lem : rest_good sh (asked ordered st) ≡ rest_asked
  unfolding rest_good
  rest_asked_lem =
      rw
      (asked_same (heard_good sh) (heard_ordered st sh), asked_same (λ (x : State). good_log sh.s x.site.group x.change.draft) refl, asked_same points_good points_asked, asked_same (view_good sh) (view_ordered st sh), asked_same (kept_good sh) (kept_ordered st sh), asked_same (notes_right sh) notes_asked)

-- ---- each way through the check

pub judged_good : (sh : Shape) (b : List ℕ) → judged true sh b ≡ good_bytes sh b
unfolding judged good_bytes pick
judged_good sh b = refl

pub judged_orderable : (sh : Shape) (b : List ℕ) → judged false sh b ≡ orderable sh b
unfolding judged orderable pick
judged_orderable sh b = refl

pub notes_formed : (sh : Shape) (b : List ℕ) (f : Bool) → f ≡ (section_form sh b 6 && every note_fits (state_of sh b).waiting.notes) → not f ≡ false → section_form sh b 6 ≡ true
notes_formed sh b f e h = and_l (section_form sh b 6) (every note_fits (state_of sh b).waiting.notes) (sym e ∙ not-false f h)

module _ (sh : Shape) (ordered : Bool) (b : List ℕ) where
  pub sizes_wrong : shape_fits sh ≡ false → false ≡ judged ordered sh b
  unfolding judged
  sizes_wrong e = rw e

  pub length_wrong : eqb (length b) (state_length sh) ≡ false → false ≡ judged ordered sh b
  unfolding judged
  length_wrong e = simp (e, and-false)

  module _ (z : length b ≡ state_length sh) where
    pub not_formed : (f : Bool) → f ≡ tables_form sh b → not f ≡ true → false ≡ judged ordered sh b
    unfolding judged
    not_formed f e h =
        let g : tables_form sh b ≡ false = sym e ∙ not-true f h in
        let k : same (image sh (state_of sh b)) b ≡ false = all_form sh b z ∙ ap (λ (t : Bool). t && (section_form sh b 2 && section_form sh b 6)) g in
        simp (k, and-false)

    module _ (bs : Bytes b) where
      parts : good sh (asked ordered (state_of sh b)) ≡ (head_fits sh (state_of sh b) && (every note_fits (state_of sh b).waiting.notes && rest_good sh (asked ordered (state_of sh b))))
      parts =
          let st = state_of sh b in
          let counts : counts_good sh (asked ordered st) ≡ true = asked_same sh ordered st (counts_good sh) (counts_ordered st sh) ∙ counts_good_lem sh b z in
          let places : places_good sh (asked ordered st) ≡ true = asked_same sh ordered st (places_good sh) (places_ordered st sh) ∙ places_good_lem sh b z bs in
          good_is sh (asked ordered st) counts places
          ∙ ap₂ (λ (x y : Bool). x && (y && rest_good sh (asked ordered st))) (head_asked sh ordered st) (asked_same sh ordered st (λ (x : State). every note_fits x.waiting.notes) refl)

      pub head_unfit : (f : Bool) → f ≡ head_fits sh (state_of sh b) → not f ≡ true → false ≡ judged ordered sh b
      unfolding judged
      head_unfit f e h =
          let g : head_fits sh (state_of sh b) ≡ false = sym e ∙ not-true f h in
          let k : good sh (asked ordered (state_of sh b)) ≡ false = parts ∙ rw g in
          simp (k, and-false)

      -- form and range of the notes are asked together
      pub notes_unfit : (f : Bool) → f ≡ (section_form sh b 6 && every note_fits (state_of sh b).waiting.notes) → not f ≡ true → false ≡ judged ordered sh b
      unfolding judged
      notes_unfit f e h = go (section_form sh b 6) refl
        where
          go : (t : Bool) → section_form sh b 6 ≡ t → false ≡ (shape_fits sh && ((eqb (length b) (state_length sh) && same (image sh (state_of sh b)) b) && good sh (asked ordered (state_of sh b))))
          go false q =
              let k : same (image sh (state_of sh b)) b ≡ false = all_form sh b z ∙ simp (q, and-false) in
              simp (k, and-false)
          go true q =
              let g : every note_fits (state_of sh b).waiting.notes ≡ false = ap (λ (t : Bool). t && every note_fits (state_of sh b).waiting.notes) (sym q) ∙ sym e ∙ not-true f h in
              let k : good sh (asked ordered (state_of sh b)) ≡ false = parts ∙ simp (g, and-false) in
              simp (k, and-false)

      pub all_good : (f d h n r : Bool) → f ≡ shape_fits sh → not f ≡ false → d ≡ tables_form sh b → not d ≡ false → h ≡ head_fits sh (state_of sh b) → not h ≡ false → n ≡ (section_form sh b 6 && every note_fits (state_of sh b).waiting.notes) → not n ≡ false → r ≡ (section_form sh b 2 && rest_good sh (asked ordered (state_of sh b))) → r ≡ judged ordered sh b
      unfolding judged
      all_good f d h n r e1 t1 e2 t2 e3 t3 e4 t4 e5 =
          let g1 : shape_fits sh ≡ true = sym e1 ∙ not-false f t1 in
          let g2 : tables_form sh b ≡ true = sym e2 ∙ not-false d t2 in
          let g3 : head_fits sh (state_of sh b) ≡ true = sym e3 ∙ not-false h t3 in
          let g4 : (section_form sh b 6 && every note_fits (state_of sh b).waiting.notes) ≡ true = sym e4 ∙ not-false n t4 in
          let g5 : section_form sh b 6 ≡ true = and_l (section_form sh b 6) (every note_fits (state_of sh b).waiting.notes) g4 in
          let g6 : every note_fits (state_of sh b).waiting.notes ≡ true = and_r (section_form sh b 6) (every note_fits (state_of sh b).waiting.notes) g4 in
          let k : same (image sh (state_of sh b)) b ≡ section_form sh b 2 = all_form sh b z ∙ rw (g2, g5, and-true) in
          let m : good sh (asked ordered (state_of sh b)) ≡ rest_good sh (asked ordered (state_of sh b)) = parts ∙ rw (g3, g6) in
          simp (g1, eq-eqb (length b) (state_length sh) z, k, m) e5

    -- what the tests after those say, taken together
    pub rest_is : (k l8 : ℕ) (heard draft points view kept entries noting : Bool) → k ≡ num b 0 1 → l8 ≡ start_of sh at_draft
        → heard ≡ (section_form sh b 2 && heard_good sh (state_of sh b)) → draft ≡ good_log sh.s k (table_at sh.c b l8) → points ≡ points_good (state_of sh b) → view ≡ view_good sh (state_of sh b) → kept ≡ kept_good sh (state_of sh b) → entries ≡ entries_good sh (asked ordered (state_of sh b)) → noting ≡ notes_right sh (state_of sh b)
        → (heard && (draft && (points && (view && (kept && (entries && noting)))))) ≡ (section_form sh b 2 && rest_good sh (asked ordered (state_of sh b)))
    unfolding all_of
    rest_is k l8 heard draft points view kept entries noting ek p8 e1 e2 e3 e4 e5 e6 e7 =
        let f = fields sh b z in
        let st = state_of sh b in
        let d : draft ≡ good_log sh.s st.site.group st.change.draft = e2 ∙ ap₂ (good_log sh.s) (ek ∙ sym f.group) (ap (table_at sh.c b) p8 ∙ sym f.draft) in
        let made : (heard_good sh st && (draft && (points && (view && (kept && (entries && noting)))))) ≡ rest_asked sh ordered st = rw (d, e3, e4, e5, e6, e7, and-true) in
        ap (λ (t : Bool). t && (draft && (points && (view && (kept && (entries && noting)))))) e1
        ∙ and_assoc (section_form sh b 2) (heard_good sh st) (draft && (points && (view && (kept && (entries && noting)))))
        ∙ ap (λ (t : Bool). section_form sh b 2 && t) (made ∙ sym (rest_asked_lem sh ordered st))
