-- A state with early in order: what that leaves as it is, what is asked of one that is good but for that order, and what the call leaves that orders an older
-- state: no entry lost, good bytes as they are, and a good state from which every message is answered as before. Assumes nothing.
use Prim.Native.Nat.{ℕ}
use mathlib.Core.Path.{◌≡◌, refl, sym, ap, ◌∙◌}
use mathlib.Core.Bool.{true, false, ◌&&◌}
use mathlib.Core.List.{List, [], ◌∷◌, ◌++◌}
use lib.ListN.{length}
use lib.Dec.{eqb}
use Rattle.rules.specs.Choice.{pick, all_of, every}
use Rattle.rules.specs.Group.{holds, shape_fits}
use Rattle.rules.specs.Entry.{entry_fits, before, ordered}
use Rattle.rules.specs.Log.{held_of, last_of, follows_last, rise_from, all_hold, distinct}
use Rattle.rules.specs.Read.{entry_wide}
use Rattle.rules.specs.State.{State, with_waiting, in_order, view_good, heard_good, vote_good, reply_good, kept_good, counts_good, buffers_good, early_good, ranges_good, places_good, good}
use Rattle.rules.specs.Wire.{Wire}
use Rattle.rules.specs.Image.{image, state_of, canonical, good_bytes, orderable, state_length}
use Rattle.rules.specs.Bytes.{leaves, order_bytes}
use Rattle.rules.specs.Step.{step}
use Rattle.rules.specs.declared.Entry.{Entry}
use Rattle.rules.specs.declared.Shape.{Shape}
use Rattle.rules.proofs.Choice.{Pairs, truth, pairs_map, pairs_front, pairs_back, every_all, all_every, and_left, and_right}
use Rattle.rules.proofs.Tests.{split, join, ◌also◌, same_true}
use Rattle.rules.proofs.Order.{Perm, perm_back, perm_same, perm_behind, perm_front, perm_all, perm_pairs, perm_every, before_asym, ordered_perm, ordered_sorted, ordered_same, ordered_length}
use Rattle.rules.proofs.Logs.{Apart, apart_turns, Rising, sorted_rises, rise_pairs, pairs_rise, distinct_pairs, pairs_distinct}
use Rattle.rules.proofs.Conjuncts.{good_is}
use Rattle.rules.proofs.Good.{good_bytes_lem, state_image, image_good}
use Rattle.rules.proofs.Unordered.{Alike, Agree, step_before, same_step}

-- ---- entries

-- where no transaction stands twice, ordered entries rise from d on if each lies after d
pub rises_ordered : (d : Entry) (es : List Entry) → Pairs Apart es → rise_from d (ordered es) ≡ every (before d) es
rises_ordered d es once =
    truth (rise_from d (ordered es)) (every (before d) es)
    (λ t. all_every (before d) es (perm_all (Rising d) (perm_back (ordered_perm es)) (rise_pairs d (ordered es) t).0))
    (λ t.
    pairs_rise d (ordered es) (perm_all (Rising d) (ordered_perm es) (every_all (before d) es t))
    (sorted_rises (ordered es) (ordered_sorted es) (perm_pairs Apart apart_turns (ordered_perm es) once)))

-- entries that rise are in order
pub rising_same : (d : Entry) (es : List Entry) → rise_from d es ≡ true → ordered es ≡ es
rising_same d es h = ordered_same es (pairs_map before_asym es (rise_pairs d es h).1)

distinct_perm : {xs ys : List Entry} → Perm xs ys → distinct xs ≡ distinct ys
distinct_perm {xs} {ys} h =
    truth (distinct xs) (distinct ys) (λ t. pairs_distinct ys (perm_pairs Apart apart_turns h (distinct_pairs xs t)))
    (λ t. pairs_distinct xs (perm_pairs Apart apart_turns (perm_back h) (distinct_pairs ys t)))

-- ---- a state

module _ (st : State) where
  abbrev es : List Entry
  es = st.waiting.early

  -- no entry of early is lost and none comes
  pub order_keeps : Perm st.waiting.early (in_order st).waiting.early
  order_keeps = ordered_perm es

  -- and nothing else changes
  pub order_else : with_waiting [] (in_order st).waiting.late (in_order st).waiting.notes (in_order st) ≡ with_waiting [] st.waiting.late st.waiting.notes st
  order_else = refl

  pub order_alike : Alike st (in_order st)
  order_alike = record { early = order_keeps; late = perm_same st.waiting.late; rest = refl }

  -- early in order is all that the ordering adds: each lies after the log's last, in whichever order
  pub buffers_ordered : buffers_good (in_order st)
      ≡ all_of
      (distinct (held_of st.logged.log ++ (st.waiting.early ++ st.waiting.late))
      ∷ every (follows_last st.logged.log) st.waiting.early
      ∷ all_hold st.site.group (st.waiting.early ++ st.waiting.late)
      ∷ [])
  unfolding buffers_good
  buffers_ordered =
      let log = held_of st.logged.log in
      let late = st.waiting.late in
      let k = st.site.group in
      let p : Perm (es ++ late) (ordered es ++ late) = perm_front late (ordered_perm es) in
      let d : distinct (log ++ (es ++ late)) ≡ distinct (log ++ (ordered es ++ late)) = distinct_perm (perm_behind log p) in
      let m : all_hold k (es ++ late) ≡ all_hold k (ordered es ++ late) = perm_every (λ e. holds e.mask k) p in
      let rises : distinct (log ++ (es ++ late)) ≡ true → rise_from (last_of st.logged.log) (ordered es) ≡ every (follows_last st.logged.log) es
      = λ t. rises_ordered (last_of st.logged.log) es (pairs_front Apart es late (pairs_back Apart log (es ++ late) (distinct_pairs (log ++ (es ++ late)) t))) in
      truth _ _
      (λ t. let h = split _ t in let o = d ∙ h 0 in join _ (o also sym (rises o) ∙ h 1 also m ∙ h 2 also tt))
      (λ t. let h = split _ t in join _ (sym d ∙ h 0 also rises (h 0) ∙ h 1 also sym m ∙ h 2 also tt))

  module _ (sh : Shape) where
    pub view_ordered : view_good sh (in_order st) ≡ view_good sh st
    unfolding view_good
    view_ordered = refl

    pub heard_ordered : heard_good sh (in_order st) ≡ heard_good sh st
    unfolding heard_good
    heard_ordered = refl

    pub kept_ordered : kept_good sh (in_order st) ≡ kept_good sh st
    unfolding kept_good vote_good reply_good
    kept_ordered = refl

    pub counts_ordered : counts_good sh (in_order st) ≡ counts_good sh st
    unfolding counts_good
    counts_ordered = rw (ordered_length es)

    pub early_ordered : every (early_good sh (in_order st)) (ordered st.waiting.early) ≡ every (early_good sh st) st.waiting.early
    unfolding early_good
    early_ordered = sym (perm_every (early_good sh st) (ordered_perm es))

    pub fits_ordered : every (entry_fits sh.s) (ordered st.waiting.early ++ st.waiting.late) ≡ every (entry_fits sh.s) (st.waiting.early ++ st.waiting.late)
    fits_ordered = sym (perm_every (entry_fits sh.s) (perm_front st.waiting.late (ordered_perm es)))

    pub ranges_ordered : ranges_good sh (in_order st) ≡ ranges_good sh st
    unfolding ranges_good
    ranges_ordered = rw fits_ordered

    wide_ordered : every entry_wide (held_of st.logged.log ++ (ordered es ++ (st.waiting.late ++ held_of st.change.draft)))
        ≡ every entry_wide (held_of st.logged.log ++ (es ++ (st.waiting.late ++ held_of st.change.draft)))
    wide_ordered = sym (perm_every entry_wide (perm_behind (held_of st.logged.log) (perm_front (st.waiting.late ++ held_of st.change.draft) (ordered_perm es))))

    pub places_ordered : places_good sh (in_order st) ≡ places_good sh st
    unfolding places_good
    places_ordered = rw wide_ordered

    -- a good state is in order
    pub good_ordered : good sh st ≡ true → in_order st ≡ st
    good_ordered g =
        ap (λ (xs : List Entry). with_waiting xs st.waiting.late st.waiting.notes st) (rising_same (last_of st.logged.log) es (good_is sh st g).buffers.rises)

-- ---- the call that orders an older state

module _ (sh : Shape) (b : List ℕ) where
  -- bytes that can be put in order
  pub record Orderable : Type 0 where
    pub fits : shape_fits sh ≡ true
    pub bytes : image sh (state_of sh b) ≡ b
    pub good : good sh (in_order (state_of sh b)) ≡ true

  pub orderable_is : orderable sh b ≡ true → Orderable
  unfolding orderable
  orderable_is e =
      let r = and_right (shape_fits sh) (canonical sh b && good sh (in_order (state_of sh b))) e in
      let c = and_left (canonical sh b) (good sh (in_order (state_of sh b))) r in
      record {
        fits = and_left (shape_fits sh) (canonical sh b && good sh (in_order (state_of sh b))) e;
        bytes = same_true (image sh (state_of sh b)) b (and_right (eqb (length b) (state_length sh)) _ c);
        good = and_right (canonical sh b) (good sh (in_order (state_of sh b))) r;
      }

  -- good bytes are among them
  pub good_orderable : good_bytes sh b ≡ true → orderable sh b ≡ true
  unfolding good_bytes orderable
  good_orderable e = rw (good_ordered (state_of sh b) sh (good_bytes_lem sh b e).good) e

  -- and stay as they are
  pub good_stays : good_bytes sh b ≡ true → order_bytes sh b ≡ record { refused = false; number = 0; offset = 0; sent = 0; state = b; out = [] }
  unfolding order_bytes pick
  good_stays e =
      let g = good_bytes_lem sh b e in
      let s : image sh (in_order (state_of sh b)) ≡ b = ap (image sh) (good_ordered (state_of sh b) sh g.good) ∙ g.bytes in
      rw (good_orderable e, s)

  -- what is refused stays too
  pub wrong_stays : orderable sh b ≡ false → order_bytes sh b ≡ leaves 1 b []
  unfolding order_bytes pick
  wrong_stays e = rw e

  module _ (e : orderable sh b ≡ true) where
    pub order_leaves : (order_bytes sh b).state ≡ image sh (in_order (state_of sh b))
    unfolding order_bytes pick
    order_leaves = rw e

    -- what is left is a good state: the one in the bytes, with early in order
    pub order_good : good_bytes sh (order_bytes sh b).state ≡ true
    order_good = let o = orderable_is e in rw order_leaves (image_good sh o.fits (in_order (state_of sh b)) o.good)

    pub order_state : state_of sh (order_bytes sh b).state ≡ in_order (state_of sh b)
    order_state = let o = orderable_is e in rw order_leaves (state_image sh o.fits (in_order (state_of sh b)) o.good)

    -- so every message is answered by it as the older state was answered before
    pub order_answers : (w : Wire) → Agree (step_before sh (state_of sh b) w) (step sh (state_of sh (order_bytes sh b).state) w)
    order_answers w =
        let o = orderable_is e in
        rw order_state (same_step sh (state_of sh b) (in_order (state_of sh b)) (order_alike (state_of sh b)) o.good w)
