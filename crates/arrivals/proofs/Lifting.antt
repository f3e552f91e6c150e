-- What a good state says of its early entries: they are in order, and neither a note that is heard nor the own one takes an entry down. Assumes nothing.
use Prim.Native.Nat.{ℕ, ◌^◌, ◌≤◌, ◌<◌}
use mathlib.Core.Path.{◌≡◌, sym, subst}
use mathlib.Core.Bool.{true, false}
use mathlib.Core.List.{List}
use lib.ListN.{length}
use lib.Dec.{ltb}
use borrow.Author.Tests.{eqb-true, eq-eqb}
use Rattle.octets.proofs.Codecs.{All}
use Rattle.rules.specs.Choice.{is_some}
use Rattle.rules.specs.Group.{holds}
use Rattle.rules.specs.Entry.{same_txn, among, place, entry_fits}
use Rattle.rules.specs.Log.{last_of, distinct}
use Rattle.rules.specs.State.{Note, State, with_waiting, leads, noted, agreed, greatest, early_good}
use Rattle.rules.specs.Early.{keep_note}
use Rattle.rules.specs.Image.{state_of}
use Rattle.rules.specs.declared.Entry.{Entry}
use Rattle.rules.specs.declared.Shape.{Shape}
use Rattle.rules.proofs.Tests.{all_3, so_when}
use Rattle.rules.proofs.Choice.{and_right, and_both, clash, all_map, all_both, all_front, pairs_map, any_none, every_all}
use Rattle.rules.proofs.Order.{Sorted, before_asym, perm_all, place_perm, place_sorted}
use Rattle.rules.proofs.Logs.{rise_pairs}
use Rattle.rules.proofs.Conjuncts.{good_is}
use Rattle.rules.proofs.KeptState.{early_by}
use Rattle.rules.proofs.KeptNotes.{noted_here, greatest_holds, Sound, heard_ready}
use Rattle.notes.specs.Notes.{row}
use Rattle.places.specs.Layout.{Midway, Stands}
use Rattle.places.proofs.Sections.{midway_is}
use Rattle.handler.proofs.Own.{group_below, early_once}
use Rattle.stamps.specs.Climbs.{Climbs}
use Rattle.stamps.proofs.Lifts.{placed_once}
use Rattle.arrivals.specs.Taken.{Lifting}

module _ {sh : Shape} {st : State} {b : List ℕ} (s : Stands sh st b) where
  abbrev early : List Entry
  early = st.waiting.early

  abbrev notes : List Note
  notes = st.waiting.notes

  abbrev own : ℕ
  own = st.site.group

  pub early_sorted : Sorted early
  early_sorted = pairs_map before_asym early (rise_pairs (last_of st.logged.log) early (good_is sh st s.good).buffers.rises).1

  -- a note has a place for each group
  note_places : All (λ x. length x.stamps ≡ sh.s) notes
  note_places = all_map (λ x q. eqb-true _ _ (and_right (ltb x.request (2 ^ 32)) _ q)) notes (every_all _ notes (good_is sh st s.good).places.notes_wide)

  sound : All (Sound sh.s own (last_of st.logged.log)) early
  sound =
      let g = good_is sh st s.good in
      all_3 (λ e p q r. record { ours = p; fits = q; after = r }) early
      (all_front _ early st.waiting.late (every_all (λ e. holds e.mask own) _ g.buffers.ours))
      (all_front _ early st.waiting.late (every_all (entry_fits sh.s) _ g.ranges.waiting))
      (rise_pairs (last_of st.logged.log) early g.buffers.rises).0

  -- a note of another group that was not held, at a leader
  pub heard_climbs : (e : Entry) (j t : ℕ) → st.view.status ≡ 1 → leads sh st ≡ true → j < sh.s → (j ≡ own → ⊥) → is_some (noted notes e j) ≡ false
      → Climbs sh (keep_note sh e j t notes) e early
  unfolding early_good
  heard_climbs e j t one led m other new =
      let by : All (λ d. early_by sh notes own d ≡ true) early =
      every_all (early_by sh notes own) early (so_when _ _ (good_is sh st s.good).early (and_both _ _ (eq-eqb _ _ one) led)) in
      all_both (λ d h q same. ((heard_ready sh e j t own (last_of st.logged.log) notes (group_below s) m other new note_places d h q).this same).rises) early by sound

  -- the own note of an entry that is put in
  module _ (e : Entry) (a : among early e ≡ false) (h : holds e.mask own ≡ true) where
    own_climbs : Climbs sh (keep_note sh e own e.stamp notes) e (place e early)
    own_climbs =
        let now = keep_note sh e own e.stamp notes in
        perm_all (λ d. same_txn e d ≡ true → agreed sh now d ≡ true → d.stamp ≤ greatest sh now d) (place_perm e early) (
          (λ _ _. greatest_holds e.mask _ sh.s own e.stamp (group_below s) h (noted_here sh e own e.stamp notes (group_below s) note_places)),
          all_map (λ d f same _. clash (same_txn e d) same f) early (any_none (same_txn e) early a),
        )

    pub own_lifting : row e.request e.coordinator notes < sh.c → (j : ℕ) → j ≡ own → Lifting sh e j e.stamp (place e early) notes
    own_lifting r j q =
        subst (λ (k : ℕ). Lifting sh e k e.stamp (place e early) notes) (sym q)
        (record {
          once = placed_once e early (early_once s) a;
          sorted = place_sorted e early early_sorted;
          climbs = own_climbs;
          room = r;
          group = group_below s;
        })

-- once the note is kept, the early entry can be lifted
pub kept_ready : {sh : Shape} {b : List ℕ} (st : State) (e : Entry) (j t : ℕ) → Lifting sh e j t st.waiting.early st.waiting.notes
    → Midway sh (with_waiting st.waiting.early st.waiting.late (keep_note sh e j t st.waiting.notes) st) b
    → Midway sh (state_of sh b) b × (distinct (state_of sh b).waiting.early ≡ true) × Sorted (state_of sh b).waiting.early × Climbs sh (state_of sh b).waiting.notes e (state_of sh b).waiting.early
kept_ready {sh} {b} st e j t l m =
    subst (λ (x : State). Midway sh x b × (distinct x.waiting.early ≡ true) × Sorted x.waiting.early × Climbs sh x.waiting.notes e x.waiting.early) (sym (midway_is m))
    (m, l.once, l.sorted, l.climbs)
