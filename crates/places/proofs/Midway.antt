-- A state on the way: its tables and notes as they are lent from one section's start to the next one's, and what a change of them leaves. Assumes nothing.
use Prim.Native.Nat.{ℕ, ◌-◌}
use mathlib.Core.Path.{◌≡◌, ap, ◌∙◌}
use mathlib.Core.List.{List, ◌++◌}
use native.Mathlib.Omega.{arith}
use lib.ListN.{length, take, drop}
use Rattle.octets.specs.Bytes.{num}
use Rattle.rules.specs.State.{Note, State, with_logged, with_waiting}
use Rattle.rules.specs.Image.{table_at, at_draft, at_early, at_late, at_log, at_notes, at_replies, at_votes}
use Rattle.rules.specs.declared.Entry.{Entry}
use Rattle.rules.specs.declared.Shape.{Shape}
use Rattle.rules.proofs.Image.{fits_waiting, fits_log}
use Rattle.entries.specs.Table.{Holds, Table}
use Rattle.entries.proofs.Table.{decoded, is_table}
use Rattle.notes.specs.Notes.{notes_at, NotesHold, Notes}
use Rattle.notes.proofs.Notes as noted
use Rattle.places.specs.Layout.{start_of, Midway}
use Rattle.places.proofs.Sections.{midway_laid, laid_midway}
use Rattle.places.proofs.Lent.{holds_fits, notes_fit, log_lent, early_lent, late_lent, draft_lent, notes_lent, log_home, early_home, late_home, notes_home}

module _ {sh : Shape} {st : State} {b : List ℕ} (m : Midway sh st b) where
  -- ---- lent
  pub log_here : (at end : ℕ) → at ≡ start_of sh at_log → end ≡ start_of sh at_early → Holds sh.c st.logged.log (take (end - at) (drop at b))
  log_here at end e f = log_lent (midway_laid m) at (end - at) m.fits m.holds.log e (omega arith)

  pub early_here : (at end : ℕ) → at ≡ start_of sh at_early → end ≡ start_of sh at_late → Holds sh.c st.waiting.early (take (end - at) (drop at b))
  early_here at end e f = early_lent (midway_laid m) at (end - at) m.fits m.holds.early e (omega arith)

  pub late_here : (at end : ℕ) → at ≡ start_of sh at_late → end ≡ start_of sh at_notes → Holds sh.c st.waiting.late (take (end - at) (drop at b))
  late_here at end e f = late_lent (midway_laid m) at (end - at) m.fits m.holds.late e (omega arith)

  pub draft_here : (at end : ℕ) → at ≡ start_of sh at_draft → end ≡ start_of sh at_replies → Holds sh.c st.change.draft (take (end - at) (drop at b))
  draft_here at end e f = draft_lent (midway_laid m) at (end - at) m.fits m.holds.draft e (omega arith)

  pub notes_here : (at end : ℕ) → at ≡ start_of sh at_notes → end ≡ start_of sh at_votes → NotesHold sh.c sh.s st.waiting.notes (take (end - at) (drop at b))
  notes_here at end e f = notes_lent (midway_laid m) at (end - at) m.fits m.holds.notes e (omega arith)

  -- ---- come home
  pub log_comes : {b' x : List ℕ} (at end : ℕ) (es : List Entry) → Holds sh.c es x → at ≡ start_of sh at_log → end ≡ start_of sh at_early → b' ≡ take at b ++ (x ++ drop (end - at) (drop at b)) → Midway sh (with_logged es st.logged.sync st.logged.commit st) b'
  log_comes at end es h e f w = laid_midway m.fits (fits_log es m.holds (holds_fits h)) (log_home (midway_laid m) at (end - at) es h e (omega arith) w)

  pub early_comes : {b' x : List ℕ} (at end : ℕ) (es : List Entry) → Holds sh.c es x → at ≡ start_of sh at_early → end ≡ start_of sh at_late → b' ≡ take at b ++ (x ++ drop (end - at) (drop at b)) → Midway sh (with_waiting es st.waiting.late st.waiting.notes st) b'
  early_comes at end es h e f w =
      laid_midway m.fits (fits_waiting es st.waiting.late st.waiting.notes m.holds (holds_fits h) m.holds.late m.holds.notes)
      (early_home (midway_laid m) at (end - at) es h e (omega arith) w)

  pub late_comes : {b' x : List ℕ} (at end : ℕ) (es : List Entry) → Holds sh.c es x → at ≡ start_of sh at_late → end ≡ start_of sh at_notes → b' ≡ take at b ++ (x ++ drop (end - at) (drop at b)) → Midway sh (with_waiting st.waiting.early es st.waiting.notes st) b'
  late_comes at end es h e f w =
      laid_midway m.fits (fits_waiting st.waiting.early es st.waiting.notes m.holds m.holds.early (holds_fits h) m.holds.notes)
      (late_home (midway_laid m) at (end - at) es h e (omega arith) w)

  pub notes_come : {b' x : List ℕ} (at end : ℕ) (xs : List Note) → NotesHold sh.c sh.s xs x → at ≡ start_of sh at_notes → end ≡ start_of sh at_votes → b' ≡ take at b ++ (x ++ drop (end - at) (drop at b)) → Midway sh (with_waiting st.waiting.early st.waiting.late xs st) b'
  notes_come at end xs h e f w =
      laid_midway m.fits (fits_waiting st.waiting.early st.waiting.late xs m.holds m.holds.early m.holds.late (notes_fit sh h))
      (notes_home (midway_laid m) at (end - at) xs h e (omega arith) w)

-- ---- a table, and notes, by what they hold

pub table_is : {c : ℕ} {es : List Entry} {t : List ℕ} → Holds c es t → Table c t × (table_at c t 0 ≡ es)
table_is {c} {es} {t} h = (is_table c es t h, decoded c es t h)

pub table_count : {c n : ℕ} {es : List Entry} {t : List ℕ} → Table c t → table_at c t 0 ≡ es → n ≡ num t 0 4 → n ≡ length es
table_count h e q = q ∙ h.count ∙ ap length e

pub notes_are : {c s : ℕ} {xs : List Note} {t : List ℕ} → NotesHold c s xs t → Notes c s t × (notes_at c s t ≡ xs)
notes_are {c} {s} {xs} {t} h = (noted.is_notes c s xs t h, noted.decoded c s xs t h)
