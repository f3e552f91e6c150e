-- The ways through the handler of kind 3. Assumes nothing.
use Prim.Native.Nat.{ℕ, ◌+◌, ◌≤◌, ◌<◌, max}
use mathlib.Core.Path.{◌≡◌, refl, sym, ap, subst, ◌∙◌}
use mathlib.Core.Bool.{Bool, true, false, not, ◌&&◌}
use mathlib.Core.List.{List, []}
use native.Mathlib.Omega.{arith}
use lib.ListN.{length}
use lib.Dec.{eqb, ltb, leb}
use borrow.Author.Tests.{eqb-true, eqb-false, ltb-true, ltb-false, le-leb, lt-leb, not-true, not-false}
use Rattle.rules.specs.Choice.{pick, is_some, any}
use Rattle.rules.specs.Group.{leader}
use Rattle.rules.specs.Entry.{among}
use Rattle.rules.specs.Wire.{Wire, first_entry, tag_of, header_in}
use Rattle.rules.specs.Kind.{known, row_of}
use Rattle.rules.specs.Read.{wire_in}
use Rattle.rules.specs.State.{Note, State, with_waiting, leads, noted}
use Rattle.rules.specs.Image.{image, state_of}
use Rattle.rules.specs.Step.{refused, done, equal, leads_by, from_own, from_leader, view_right, status_right, role_right, on_note}
use Rattle.rules.specs.Early.{keep_note, lifted}
use Rattle.rules.specs.Bytes.{leaves}
use Rattle.rules.specs.declared.Entry.{Entry}
use Rattle.rules.specs.declared.Header.{Header}
use Rattle.rules.specs.declared.Shape.{Shape}
use Rattle.rules.specs.declared.Message.{Message}
use Rattle.rules.specs.declared.Message.TheVariants as cases
use Rattle.rules.proofs.Choice.{by_cases, and_left, and_right}
use Rattle.rules.proofs.Tests.{same_true}
use Rattle.notes.specs.Notes.{row}
use Rattle.notes.proofs.Row.{length_kept}
use Rattle.places.proofs.Sections.{stands_fits}
use Rattle.handler.specs.Handler.{Ready, handled}
use Rattle.handler.proofs.Closes.{quiet}
use Rattle.handler.proofs.Ways.{refuses, keeps, said_group, said_sender}
use Rattle.handler.proofs.Own.{early_once}
use Rattle.arrivals.specs.Taken.{Lifting}
use Rattle.arrivals.proofs.Lifting.{early_sorted, heard_climbs}

-- one note more fits where the transaction's place is below C
pub room_is : (sh : Shape) (e : Entry) (j t : ℕ) (xs : List Note) → length xs ≤ sh.c → leb (length (keep_note sh e j t xs)) sh.c ≡ ltb (row e.request e.coordinator xs) sh.c
room_is sh e j t xs l =
    let r = row e.request e.coordinator xs in
    let n : length (keep_note sh e j t xs) ≡ max (length xs) (r + 1) = length_kept e sh j t xs in
    by_cases (ltb r sh.c)
    (λ a. le-leb (length (keep_note sh e j t xs)) sh.c (omega (arith, ltb-true r sh.c a)) ∙ sym a)
    (λ a. lt-leb (length (keep_note sh e j t xs)) sh.c (omega (arith, ltb-false r sh.c a)) ∙ sym a)

-- there is room for the note that is kept
pub room_below : (a c : ℕ) (p : Bool) → p ≡ ltb a c → not p ≡ false → a < c
room_below a c p g k = ltb-true a c (sym g ∙ not-false p k)

-- whether a transaction stands in a log, by the one that is read
pub in_log : (xs log : List Entry) (x : Entry) (t : Bool) → xs ≡ log → t ≡ among xs x → t ≡ among log x
in_log xs log x t q a = rw q at a

-- ---- the rule, by its tests

module _ (sh : Shape) (st : State) (w : Wire) (x : Entry) (j : ℕ) (q : x ≡ first_entry w) (f : w.from_group ≡ j) where
  abbrev kept : List Note
  kept = keep_note sh x j x.stamp st.waiting.notes

  logged : among st.logged.log x ≡ true → on_note sh st w ≡ refused 7
  unfolding on_note pick
  logged h = rw (sym q, h)

  module _ (a : among st.logged.log x ≡ false) where
    again : is_some (noted st.waiting.notes x j) ≡ true → on_note sh st w ≡ refused 7
    unfolding on_note pick
    again h = rw (sym q, f, a, h)

    module _ (n : is_some (noted st.waiting.notes x j) ≡ false) where
      full : leb (length kept) sh.c ≡ false → on_note sh st w ≡ refused 8
      unfolding on_note pick
      full h = rw (sym q, f, a, n, h)

      fits : leb (length kept) sh.c ≡ true → on_note sh st w ≡ done (with_waiting (lifted sh kept x st.waiting.early) st.waiting.late kept st) []
      unfolding on_note pick
      fits h = rw (sym q, f, a, n, h)

-- ---- the ways

module _ (sh : Shape) (b msg out : List ℕ) (m : Message) (h : Header) (r : Ready sh b m msg) (e : m ≡ cases.Note h) where
  abbrev st : State
  st = state_of sh b

  abbrev j : ℕ
  j = h.from_group

  own : tag_of m ≡ 3
  own = ap tag_of e

  kind_known : known 3 ≡ true
  unfolding pick any
  kind_known = refl

  from_is : (wire_in sh.s msg).from_group ≡ j
  from_is = said_group r 3 own kind_known ∙ ap (λ (x : Message). (header_in x).from_group) e

  -- the sender's group is one of the shape's
  pub from_below : j < sh.s
  unfolding row_of
  from_below = rw e at (said_sender r 3 own kind_known refl).0

  -- it comes from another group, to a leader in status 1
  of_view : equal st (wire_in sh.s msg) ≡ true
  unfolding view_right row_of
  of_view = subst (λ (k : ℕ). view_right k st (wire_in sh.s msg) ≡ true) own r.view

  of_status : st.view.status ≡ 1
  unfolding status_right row_of
  of_status = eqb-true _ _ (subst (λ (k : ℕ). status_right k st (wire_in sh.s msg) ≡ true) own r.status)

  of_role : (leads_by sh st (wire_in sh.s msg) && (not (from_own st (wire_in sh.s msg)) && from_leader sh (wire_in sh.s msg))) ≡ true
  unfolding role_right row_of
  of_role = subst (λ (k : ℕ). role_right k sh st (wire_in sh.s msg) ≡ true) own r.role

  led : leads sh st ≡ true
  led =
      let w = wire_in sh.s msg in
      ap (λ (v : List ℕ). eqb st.site.replica (leader sh.n v st.site.group)) (sym (same_true w.g_vec st.view.g_vec (and_right (eqb w.view st.view.g_view) _ of_view)))
      ∙ and_left (leads_by sh st w) _ of_role

  foreign : j ≡ st.site.group → ⊥
  foreign =
      let w = wire_in sh.s msg in
      eqb-false _ _ (ap (λ (k : ℕ). eqb k st.site.group) (sym from_is) ∙ not-true (from_own st w) (and_left (not (from_own st w)) _ (and_right (leads_by sh st w) _ of_role)))

  module _ (x : Entry) (q : x ≡ first_entry (wire_in sh.s msg)) (t : Bool) (a : t ≡ among st.logged.log x) where
    pub in_log_way : t ≡ true → leaves 7 b out ≡ handled 3 on_note sh m b msg out
    in_log_way z = refuses 3 on_note sh b msg out m own 7 (logged sh st _ x j q from_is (sym a ∙ z))

    module _ (z : t ≡ false) (u : Bool) (v : u ≡ is_some (noted st.waiting.notes x j)) where
      pub noted_way : u ≡ true → leaves 7 b out ≡ handled 3 on_note sh m b msg out
      noted_way y = refuses 3 on_note sh b msg out m own 7 (again sh st _ x j q from_is (sym a ∙ z) (sym v ∙ y))

      module _ (y : u ≡ false) (p : Bool) (g : p ≡ ltb (row x.request x.coordinator st.waiting.notes) sh.c) where
        room : leb (length (keep_note sh x j x.stamp st.waiting.notes)) sh.c ≡ p
        room = room_is sh x j x.stamp st.waiting.notes (stands_fits r.stands).notes.room ∙ sym g

        pub full_way : not p ≡ true → leaves 8 b out ≡ handled 3 on_note sh m b msg out
        full_way k = refuses 3 on_note sh b msg out m own 8 (full sh st _ x j q from_is (sym a ∙ z) (sym v ∙ y) (room ∙ not-true p k))

        pub lifting : not p ≡ false → Lifting sh x j x.stamp st.waiting.early st.waiting.notes
        lifting k =
            record {
              once = early_once r.stands;
              sorted = early_sorted r.stands;
              climbs = heard_climbs r.stands x j x.stamp of_status led from_below foreign (sym v ∙ y);
              room = room_below _ _ p g k;
              group = from_below;
            }

        pub kept_way : (b' : List ℕ) → not p ≡ false → b' ≡ image sh (with_waiting (lifted sh (keep_note sh x j x.stamp st.waiting.notes) x st.waiting.early) st.waiting.late (keep_note sh x j x.stamp st.waiting.notes) st) → quiet b' out ≡ handled 3 on_note sh m b msg out
        kept_way b' k = keeps 3 on_note sh b msg out m own _ b' (fits sh st _ x j q from_is (sym a ∙ z) (sym v ∙ y) (room ∙ not-false p k))
