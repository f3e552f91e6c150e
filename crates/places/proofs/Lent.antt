-- Tables and notes of a state lent to a callee, and come home from it. Assumes nothing.
use Prim.Native.Nat.{ℕ, ◌+◌, ◌*◌, ◌<◌}
use mathlib.Core.Path.{◌≡◌, refl, sym, ap, ◌∙◌}
use mathlib.Core.Option.{none, some}
use mathlib.Core.List.{List, [], ◌++◌}
use native.Mathlib.Omega.{arith}
use lib.ListN.{take, drop, get_or, set}
use lib.Dec.{lit<}
use Rattle.octets.specs.Bytes.{part}
use Rattle.rules.specs.State.{Note, Vote, State, with_change, with_logged, with_waiting}
use Rattle.rules.specs.Image.{table_length, note_length, vote_length, reply_length, lengths, head_section, table_bytes, sections, at_draft, at_early, at_late, at_log, at_notes, at_replies, at_votes, at_end}
use Rattle.rules.specs.declared.Entry.{Entry}
use Rattle.rules.specs.declared.Shape.{Shape}
use Rattle.rules.proofs.Tables.{TableFits, NotesFit}
use Rattle.entries.specs.Table.{Holds}
use Rattle.entries.proofs.Table.{hold}
use Rattle.notes.specs.Notes.{NotesHold}
use Rattle.notes.proofs.Notes.{hold_section, held_section}
use Rattle.places.specs.Layout.{start_of, Fits, Midway}
use Rattle.places.proofs.Sections.{Laid, lent, home}
use Rattle.places.proofs.Kept.{vote_fits, vote_table, reply_fits, reply_table}

-- what a table holds fits its bytes
pub holds_fits : {c : ℕ} {es : List Entry} {t : List ℕ} → Holds c es t → TableFits c es
holds_fits h = record { room = h.room; counted = omega (arith, h.small); each = h.fit }

pub notes_fit : (sh : Shape) {xs : List Note} {t : List ℕ} → NotesHold sh.c sh.s xs t → NotesFit sh xs
notes_fit sh h = record { room = h.room; counted = omega (arith, h.small); each = h.fit }

module _ {sh : Shape} {st : State} {b : List ℕ} (l : Laid sh st b) where
  -- ---- lent
  table_lent : (i at n : ℕ) (es : List Entry) → i < at_end sh → get_or (sections sh st) i [] ≡ table_bytes sh.c es → table_length sh.c ≡ get_or (lengths sh) i 0 → Fits sh → TableFits sh.c es → at ≡ start_of sh i → n ≡ table_length sh.c → Holds sh.c es (take n (drop at b))
  table_lent i at n es h q z s f e m = hold sh.c es (take n (drop at b)) (lent l i at n h e (m ∙ z) ∙ q) f.room s.small f.each

  pub log_lent : (at n : ℕ) → Fits sh → TableFits sh.c st.logged.log → at ≡ start_of sh at_log → n ≡ table_length sh.c → Holds sh.c st.logged.log (take n (drop at b))
  log_lent at n = table_lent 3 at n st.logged.log (lit< tt) refl refl

  pub early_lent : (at n : ℕ) → Fits sh → TableFits sh.c st.waiting.early → at ≡ start_of sh at_early → n ≡ table_length sh.c → Holds sh.c st.waiting.early (take n (drop at b))
  early_lent at n = table_lent 4 at n st.waiting.early (lit< tt) refl refl

  pub late_lent : (at n : ℕ) → Fits sh → TableFits sh.c st.waiting.late → at ≡ start_of sh at_late → n ≡ table_length sh.c → Holds sh.c st.waiting.late (take n (drop at b))
  late_lent at n = table_lent 5 at n st.waiting.late (lit< tt) refl refl

  pub draft_lent : (at n : ℕ) → Fits sh → TableFits sh.c st.change.draft → at ≡ start_of sh at_draft → n ≡ table_length sh.c → Holds sh.c st.change.draft (take n (drop at b))
  draft_lent at n = table_lent 8 at n st.change.draft (lit< tt) refl refl

  -- ---- come home
  table_back : {b' x : List ℕ} (next : State) (i at n : ℕ) (es : List Entry) → i < at_end sh → table_length sh.c ≡ get_or (lengths sh) i 0 → set (sections sh st) i (table_bytes sh.c es) ≡ sections sh next → Holds sh.c es x → at ≡ start_of sh i → n ≡ table_length sh.c → b' ≡ take at b ++ (x ++ drop n (drop at b)) → Laid sh next b'
  table_back {x = x} next i at n es h z q k e m w = home l next i at n x h e (m ∙ z) (k.size ∙ sym m) (ap (set (sections sh st) i) k.bytes ∙ q) w

  pub log_home : {b' x : List ℕ} (at n : ℕ) (es : List Entry) → Holds sh.c es x → at ≡ start_of sh at_log → n ≡ table_length sh.c → b' ≡ take at b ++ (x ++ drop n (drop at b)) → Laid sh (with_logged es st.logged.sync st.logged.commit st) b'
  unfolding head_section
  log_home at n es = table_back (with_logged es st.logged.sync st.logged.commit st) 3 at n es (lit< tt) refl refl

  pub early_home : {b' x : List ℕ} (at n : ℕ) (es : List Entry) → Holds sh.c es x → at ≡ start_of sh at_early → n ≡ table_length sh.c → b' ≡ take at b ++ (x ++ drop n (drop at b)) → Laid sh (with_waiting es st.waiting.late st.waiting.notes st) b'
  unfolding head_section
  early_home at n es = table_back (with_waiting es st.waiting.late st.waiting.notes st) 4 at n es (lit< tt) refl refl

  pub late_home : {b' x : List ℕ} (at n : ℕ) (es : List Entry) → Holds sh.c es x → at ≡ start_of sh at_late → n ≡ table_length sh.c → b' ≡ take at b ++ (x ++ drop n (drop at b)) → Laid sh (with_waiting st.waiting.early es st.waiting.notes st) b'
  unfolding head_section
  late_home at n es = table_back (with_waiting st.waiting.early es st.waiting.notes st) 5 at n es (lit< tt) refl refl

  pub draft_home : {b' x : List ℕ} (at n : ℕ) (es : List Entry) → Holds sh.c es x → at ≡ start_of sh at_draft → n ≡ table_length sh.c → b' ≡ take at b ++ (x ++ drop n (drop at b)) → Laid sh (with_change st.change.votes es st.change.boundary st.change.replies st) b'
  unfolding head_section
  draft_home at n es = table_back (with_change st.change.votes es st.change.boundary st.change.replies st) 8 at n es (lit< tt) refl refl

  -- ---- the notes
  pub notes_lent : (at n : ℕ) → Fits sh → NotesFit sh st.waiting.notes → at ≡ start_of sh at_notes → n ≡ 4 + note_length sh.s * sh.c → NotesHold sh.c sh.s st.waiting.notes (take n (drop at b))
  notes_lent at n s f e m = hold_section sh st.waiting.notes (take n (drop at b)) (lent l 6 at n (lit< tt) e m) f s.small s.few

  pub notes_home : {b' x : List ℕ} (at n : ℕ) (xs : List Note) → NotesHold sh.c sh.s xs x → at ≡ start_of sh at_notes → n ≡ 4 + note_length sh.s * sh.c → b' ≡ take at b ++ (x ++ drop n (drop at b)) → Laid sh (with_waiting st.waiting.early st.waiting.late xs st) b'
  unfolding head_section
  notes_home {x = x} at n xs h e m w = home l _ 6 at n x (lit< tt) e m (h.size ∙ sym m) (ap (set (sections sh st) 6) (held_section sh xs x h)) w

-- ---- the log of a vote, and a reply

module _ {sh : Shape} {st : State} {b : List ℕ} (w : Midway sh st b) where
  pub vote_lent : (r : ℕ) (v : Vote) (at n : ℕ) → r < sh.n → get_or st.change.votes r none ≡ some v → at ≡ start_of sh at_votes + vote_length sh.c * r + 13 → n ≡ table_length sh.c → Holds sh.c v.log (take n (drop at b))
  unfolding part
  vote_lent r v at n h e a m =
      let f = (vote_fits w r v h e).log in
      hold sh.c v.log (take n (drop at b)) (rw (a, m) (vote_table w r v h e)) f.room w.fits.small f.each

  pub reply_lent : (j : ℕ) (es : List Entry) (at n : ℕ) → j < sh.s → get_or st.change.replies j none ≡ some es → at ≡ start_of sh at_replies + reply_length sh.c * j + 1 → n ≡ table_length sh.c → Holds sh.c es (take n (drop at b))
  unfolding part
  reply_lent j es at n h e a m =
      let f = reply_fits w j es h e in
      hold sh.c es (take n (drop at b)) (rw (a, m) (reply_table w j es h e)) f.room w.fits.small f.each
