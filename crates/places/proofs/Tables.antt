-- The sections that hold a table of entries, and the notes: each read whole and written whole. Assumes nothing.
use Prim.Native.Nat.{ℕ, ◌+◌, ◌*◌, ◌≤◌, ◌<◌}
use mathlib.Core.Path.{◌≡◌, refl}
use mathlib.Core.List.{List}
use lib.ListN.{length, get_or, set}
use lib.Dec.{lit<}
use Rattle.octets.specs.Bytes.{part, splice}
use Rattle.rules.specs.State.{Note, State, with_change, with_logged, with_waiting}
use Rattle.rules.specs.Image.{table_length, note_length, lengths, head_section, table_bytes, notes_section, sections, at_draft, at_early, at_late, at_log, at_notes, at_end}
use Rattle.rules.specs.declared.Entry.{Entry}
use Rattle.rules.specs.declared.Shape.{Shape}
use Rattle.rules.proofs.Tables.{table_long}
use Rattle.places.specs.Layout.{start_of}
use Rattle.places.proofs.Sections.{Laid, get_all, put_all}

module _ {sh : Shape} {st : State} {b : List ℕ} (l : Laid sh st b) where
  -- ---- read
  pub log_part : part b (start_of sh at_log) (table_length sh.c) ≡ table_bytes sh.c st.logged.log
  log_part = get_all l 3 (start_of sh at_log) (table_length sh.c) (lit< tt) refl refl

  pub early_part : part b (start_of sh at_early) (table_length sh.c) ≡ table_bytes sh.c st.waiting.early
  early_part = get_all l 4 (start_of sh at_early) (table_length sh.c) (lit< tt) refl refl

  pub late_part : part b (start_of sh at_late) (table_length sh.c) ≡ table_bytes sh.c st.waiting.late
  late_part = get_all l 5 (start_of sh at_late) (table_length sh.c) (lit< tt) refl refl

  pub notes_part : part b (start_of sh at_notes) (4 + note_length sh.s * sh.c) ≡ notes_section sh st.waiting.notes
  notes_part = get_all l 6 (start_of sh at_notes) (4 + note_length sh.s * sh.c) (lit< tt) refl refl

  pub draft_part : part b (start_of sh at_draft) (table_length sh.c) ≡ table_bytes sh.c st.change.draft
  draft_part = get_all l 8 (start_of sh at_draft) (table_length sh.c) (lit< tt) refl refl

  -- ---- written
  put_table : {b' : List ℕ} (next : State) (i : ℕ) (es : List Entry) → i < at_end sh → table_length sh.c ≡ get_or (lengths sh) i 0 → set (sections sh st) i (table_bytes sh.c es) ≡ sections sh next → length es ≤ sh.c → b' ≡ splice b (start_of sh i) (table_bytes sh.c es) → Laid sh next b'
  put_table next i es h e q r w = put_all l next i (start_of sh i) (table_bytes sh.c es) h refl (rw (table_long sh.c es r) e) q w

  pub put_log : {b' : List ℕ} (es : List Entry) → length es ≤ sh.c → b' ≡ splice b (start_of sh at_log) (table_bytes sh.c es) → Laid sh (with_logged es st.logged.sync st.logged.commit st) b'
  unfolding head_section
  put_log es = put_table (with_logged es st.logged.sync st.logged.commit st) 3 es (lit< tt) refl refl

  pub put_early : {b' : List ℕ} (es : List Entry) → length es ≤ sh.c → b' ≡ splice b (start_of sh at_early) (table_bytes sh.c es) → Laid sh (with_waiting es st.waiting.late st.waiting.notes st) b'
  unfolding head_section
  put_early es = put_table (with_waiting es st.waiting.late st.waiting.notes st) 4 es (lit< tt) refl refl

  pub put_late : {b' : List ℕ} (es : List Entry) → length es ≤ sh.c → b' ≡ splice b (start_of sh at_late) (table_bytes sh.c es) → Laid sh (with_waiting st.waiting.early es st.waiting.notes st) b'
  unfolding head_section
  put_late es = put_table (with_waiting st.waiting.early es st.waiting.notes st) 5 es (lit< tt) refl refl

  pub put_draft : {b' : List ℕ} (es : List Entry) → length es ≤ sh.c → b' ≡ splice b (start_of sh at_draft) (table_bytes sh.c es) → Laid sh (with_change st.change.votes es st.change.boundary st.change.replies st) b'
  unfolding head_section
  put_draft es = put_table (with_change st.change.votes es st.change.boundary st.change.replies st) 8 es (lit< tt) refl refl

  pub put_notes : {b' : List ℕ} (xs : List Note) → length (notes_section sh xs) ≡ 4 + note_length sh.s * sh.c → b' ≡ splice b (start_of sh at_notes) (notes_section sh xs) → Laid sh (with_waiting st.waiting.early st.waiting.late xs st) b'
  unfolding head_section
  put_notes xs r = put_all l (with_waiting st.waiting.early st.waiting.late xs st) 6 (start_of sh at_notes) (notes_section sh xs) (lit< tt) refl r refl
