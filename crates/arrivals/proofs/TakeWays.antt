-- The ways of taking an entry, at a follower and at a leader. Assumes nothing.
use Prim.Native.Nat.{ℕ, suc, ◌*◌, ◌/◌, ◌≤◌, ◌<◌}
use mathlib.Core.Path.{◌≡◌, refl, sym, ap, ap₂, ◌∙◌}
use mathlib.Core.Bool.{Bool, true, false, not}
use mathlib.Core.List.{List, [], ◌∷◌, ◌++◌}
use native.Mathlib.Omega.{arith}
use native.Mathlib.Nat.{mul-le-mul}
use lib.ListN.{length, replicate, length-replicate}
use lib.Dec.{ltb, leb}
use borrow.Author.Tests.{le-leb, lt-leb, not-true, not-false}
use Rattle.octets.specs.Bytes.{splice, flat}
use Rattle.octets.proofs.Sections.{splice_whole}
use Rattle.rules.specs.Kind.{row_of}
use Rattle.rules.specs.Choice.{pick}
use Rattle.rules.specs.Group.{holds}
use Rattle.rules.specs.Entry.{place}
use Rattle.rules.specs.Log.{follows_last}
use Rattle.rules.specs.Wire.{entry_bytes, wire_bytes}
use Rattle.rules.specs.Read.{length_for}
use Rattle.rules.specs.State.{State, with_waiting}
use Rattle.rules.specs.Image.{image, state_of}
use Rattle.rules.specs.Step.{refused, done, send_leader, other_groups, leader_takes, follower_takes}
use Rattle.rules.specs.Early.{keep_note, lifted}
use Rattle.rules.specs.Bytes.{Left, leaves, closes}
use Rattle.rules.specs.declared.Entry.{Entry}
use Rattle.rules.specs.declared.Shape.{Shape}
use Rattle.rules.proofs.Choice.{all_given}
use Rattle.rules.proofs.Entries.{EntryFits, long_entry}
use Rattle.notes.specs.Notes.{row}
use Rattle.places.specs.Layout.{Midway, Stands}
use Rattle.places.proofs.Sections.{midway_is, stands_fits, stands_laid}
use Rattle.handler.specs.Sending.{others_in, leader_bytes}
use Rattle.handler.proofs.Closes.{quiet, closes_refused, closes_sent, closes_tight, closes_quiet}
use Rattle.handler.proofs.Rows.{sends_length}
use Rattle.handler.proofs.Sends.{sender, sent_length}
use Rattle.handler.proofs.Leaders.{others_are, notes_sent}
use Rattle.arrivals.specs.Taken.{note_sends, own_noted, taken_early}
use Rattle.arrivals.proofs.NoteWays.{room_is}

-- ---- the rules, by their tests

module _ (sh : Shape) (st : State) (e : Entry) where
  module _ (f : follows_last st.logged.log e ≡ true) where
    no_early : sh.c ≤ length st.waiting.early → follower_takes sh st e ≡ refused 8
    unfolding follower_takes pick
    no_early h = rw (f, lt-leb (suc (length st.waiting.early)) sh.c (omega arith))

    to_early : length st.waiting.early < sh.c → follower_takes sh st e ≡ done (with_waiting (place e st.waiting.early) st.waiting.late st.waiting.notes st) []
    unfolding follower_takes pick
    to_early h = rw (f, le-leb (suc (length st.waiting.early)) sh.c (omega arith))

  module _ (f : follows_last st.logged.log e ≡ false) where
    no_late : sh.c ≤ length st.waiting.late → follower_takes sh st e ≡ refused 8
    unfolding follower_takes pick
    no_late h = rw (f, lt-leb (suc (length st.waiting.late)) sh.c (omega arith))

    to_late : length st.waiting.late < sh.c → follower_takes sh st e ≡ done (with_waiting st.waiting.early (st.waiting.late ++ (e ∷ [])) st.waiting.notes st) []
    unfolding follower_takes pick
    to_late h = rw (f, le-leb (suc (length st.waiting.late)) sh.c (omega arith))

  no_place : sh.c ≤ length st.waiting.early → leader_takes sh st e ≡ refused 8
  unfolding leader_takes pick
  no_place h = rw (lt-leb (suc (length st.waiting.early)) sh.c (omega arith))

  module _ (h : length st.waiting.early < sh.c) where
    no_note : leb (length (own_noted sh st e)) sh.c ≡ false → leader_takes sh st e ≡ refused 8
    unfolding leader_takes pick
    no_note n = rw (le-leb (suc (length st.waiting.early)) sh.c (omega arith), n)

    to_both : leb (length (own_noted sh st e)) sh.c ≡ true → leader_takes sh st e ≡ done (taken_early sh st e) (note_sends sh st e)
    unfolding leader_takes pick
    to_both n = rw (le-leb (suc (length st.waiting.early)) sh.c (omega arith), n)

-- ---- a follower's ways

module _ (sh : Shape) (b out : List ℕ) (e : Entry) (t : Bool) (q : t ≡ follows_last (state_of sh b).logged.log e) where
  abbrev st : State
  st = state_of sh b

  module _ (z : t ≡ true) (n : ℕ) (k : n ≡ length st.waiting.early) where
    pub early_full : sh.c ≤ n → leaves 8 b out ≡ closes sh b out (follower_takes sh st e)
    early_full h = sym (ap (closes sh b out) (no_early sh st e (sym q ∙ z) (rw k at h)) ∙ closes_refused sh b out 8)

    pub early_taken : n < sh.c → (b' : List ℕ) → Midway sh (with_waiting (place e st.waiting.early) st.waiting.late st.waiting.notes st) b' → quiet b' out ≡ closes sh b out (follower_takes sh st e)
    early_taken h b' m = sym (ap (closes sh b out) (to_early sh st e (sym q ∙ z) (rw k at h)) ∙ closes_quiet sh b out _ ∙ ap (λ (y : List ℕ). quiet y out) (sym m.bytes))

  module _ (z : t ≡ false) (n : ℕ) (k : n ≡ length st.waiting.late) where
    pub late_full : sh.c ≤ n → leaves 8 b out ≡ closes sh b out (follower_takes sh st e)
    late_full h = sym (ap (closes sh b out) (no_late sh st e (sym q ∙ z) (rw k at h)) ∙ closes_refused sh b out 8)

    pub late_taken : n < sh.c → (b' : List ℕ) → Midway sh (with_waiting st.waiting.early (st.waiting.late ++ (e ∷ [])) st.waiting.notes st) b' → quiet b' out ≡ closes sh b out (follower_takes sh st e)
    late_taken h b' m = sym (ap (closes sh b out) (to_late sh st e (sym q ∙ z) (rw k at h)) ∙ closes_quiet sh b out _ ∙ ap (λ (y : List ℕ). quiet y out) (sym m.bytes))

-- ---- what a leader sends

-- the entry's bytes in an array of their own
pub entry_alone : (e : Entry) → splice (replicate 24 0) 0 (entry_bytes e) ≡ entry_bytes e
entry_alone e = splice_whole (replicate 24 0) (entry_bytes e) (long_entry e ∙ sym (length-replicate {A = ℕ} 24 0))

-- the notes to 8 groups at most
pub notes_small : (s k n : ℕ) → s ≤ 8 → k ≡ length_for s 3 1 → n ≤ 8 → k * n ≤ 640
unfolding pick row_of
notes_small s k n h e l = let a : k ≤ 80 = omega arith in mul-le-mul a l

module _ {sh : Shape} {st : State} {b : List ℕ} (s : Stands sh st b) (e : Entry) where
  -- how long the notes are together
  pub notes_long : (k n : ℕ) → k ≡ length_for sh.s 3 1 → n ≡ length (others_in sh b e.mask) → k * n ≡ length (flat wire_bytes (note_sends sh st e))
  unfolding pick row_of
  notes_long k n p q =
      ap₂ ◌*◌ p (q ∙ ap length (others_are (stands_laid s) (sender (stands_fits s)) e.mask))
      ∙ sym (sends_length (λ j. send_leader sh st 3 j [] (e ∷ [])) (length_for sh.s 3 1) (other_groups sh st (holds e.mask))
      (all_given (λ j. sent_length sh.s st 3 j _ [] (e ∷ []) (stands_fits s).g_vec_places refl refl) (other_groups sh st (holds e.mask))))

  -- and what they are
  pub notes_told : (bytes : List ℕ) → bytes ≡ entry_bytes e → EntryFits e → flat (leader_bytes sh b 3 0 bytes) (others_in sh b e.mask) ≡ flat wire_bytes (note_sends sh st e)
  notes_told bytes q f = notes_sent (stands_laid s) (sender (stands_fits s)) 0 e.mask bytes e q f

  -- there is room for them
  pub notes_room : (n room : ℕ) → n ≡ 24 → length (flat wire_bytes (note_sends sh st e)) ≤ room → length_for sh.s 3 (n / 24) * length (others_in sh b e.mask) ≤ room
  notes_room n room q h = rw (q, notes_long (length_for sh.s 3 1) (length (others_in sh b e.mask)) refl refl) h

-- ---- what a leader keeps

pub taken_is : {sh : Shape} {b : List ℕ} (st : State) (e : Entry) (own : ℕ) (b' : List ℕ) → Midway sh (with_waiting (place e st.waiting.early) st.waiting.late st.waiting.notes st) b → own ≡ st.site.group
    → b' ≡ image sh (with_waiting (lifted sh (keep_note sh e own e.stamp (state_of sh b).waiting.notes) e (state_of sh b).waiting.early) (state_of sh b).waiting.late (keep_note sh e own e.stamp (state_of sh b).waiting.notes) (state_of sh b))
    → b' ≡ image sh (taken_early sh st e)
taken_is {sh} {b} st e own b' m g w =
    w
    ∙ ap (λ (x : State). image sh (with_waiting (lifted sh (keep_note sh e own e.stamp x.waiting.notes) e x.waiting.early) x.waiting.late (keep_note sh e own e.stamp x.waiting.notes) x)) (midway_is m)
    ∙ ap (λ (k : ℕ). image sh (with_waiting (lifted sh (keep_note sh e k e.stamp st.waiting.notes) e (place e st.waiting.early)) st.waiting.late (keep_note sh e k e.stamp st.waiting.notes) st)) g

-- ---- a leader's ways

module _ (sh : Shape) (b out : List ℕ) (e : Entry) (s : Stands sh (state_of sh b) b) (n : ℕ) (k : n ≡ length (state_of sh b).waiting.early) where
  abbrev st' : State
  st' = state_of sh b

  pub place_full : sh.c ≤ n → leaves 8 b out ≡ closes sh b out (leader_takes sh st' e)
  place_full h = sym (ap (closes sh b out) (no_place sh st' e (rw k at h)) ∙ closes_refused sh b out 8)

  module _ (h : n < sh.c) (p : Bool) (g : p ≡ ltb (row e.request e.coordinator st'.waiting.notes) sh.c) where
    room : leb (length (own_noted sh st' e)) sh.c ≡ p
    room = room_is sh e st'.site.group e.stamp st'.waiting.notes (stands_fits s).notes.room ∙ sym g

    pub note_full : not p ≡ true → leaves 8 b out ≡ closes sh b out (leader_takes sh st' e)
    note_full z = sym (ap (closes sh b out) (no_note sh st' e (rw k at h) (room ∙ not-true p z)) ∙ closes_refused sh b out 8)

    module _ (z : not p ≡ false) (need : ℕ) (d : need ≡ length (flat wire_bytes (note_sends sh st' e))) where
      done_so : leader_takes sh st' e ≡ done (taken_early sh st' e) (note_sends sh st' e)
      done_so = to_both sh st' e (rw k at h) (room ∙ not-false p z)

      pub out_full : length out < need → leaves 9 b out ≡ closes sh b out (leader_takes sh st' e)
      out_full l = sym (ap (closes sh b out) done_so ∙ closes_tight sh b out (taken_early sh st' e) (note_sends sh st' e) (rw d at l))

      pub taken : need ≤ length out → (sent : ℕ) (b' out' : List ℕ) → sent ≡ length (flat wire_bytes (note_sends sh st' e)) → out' ≡ splice out 0 (flat wire_bytes (note_sends sh st' e)) → b' ≡ image sh (taken_early sh st' e)
          → ◌≡◌ {A = Left} (record { refused = false; number = 0; offset = 0; sent = sent; state = b'; out = out' }) (closes sh b out (leader_takes sh st' e))
      taken l sent b' out' v o w = sym (ap (closes sh b out) done_so ∙ closes_sent sh b out (taken_early sh st' e) (note_sends sh st' e) (rw d at l) ∙ rw (v, o, w))
