-- Early and late of a state lent together, and come home; the state with the log taken over, section by section. Assumes nothing.
use Prim.Native.Nat.{ℕ, ◌+◌, ◌*◌, ◌≤◌}
use mathlib.Core.Path.{◌≡◌, refl, sym, ap, ap₂, ◌∙◌}
use mathlib.Core.List.{List, ◌++◌}
use native.Mathlib.Omega.{arith}
use lib.ListN.{length, take, drop, length-append, take-append-drop}
use lib.Seq.{take_at, drop_at}
use Rattle.octets.specs.Bytes.{le, part, splice}
use Rattle.octets.proofs.Laws.{part_add, splice_home, splice_splice_next}
use Rattle.rules.specs.Choice.{keep}
use Rattle.rules.specs.Log.{last_of}
use Rattle.rules.specs.State.{State, with_waiting}
use Rattle.rules.specs.Early.{stays_early, notes_without}
use Rattle.rules.specs.Image.{table_length, note_length, table_bytes, image, at_early, at_late, at_log, at_notes}
use Rattle.rules.specs.declared.Entry.{Entry}
use Rattle.rules.specs.declared.Shape.{Shape}
use Rattle.rules.proofs.Tables.{table_long}
use Rattle.entries.proofs.Table.{hold}
use Rattle.notes.specs.Notes.{notes_at, NotesHold, Notes}
use Rattle.notes.proofs.Notes.{decoded, is_notes}
use Rattle.places.specs.Layout.{start_of, Midway, Stands}
use Rattle.places.proofs.Sections.{Laid, midway_laid, stands_fits, stands_midway}
use Rattle.places.proofs.Tables as tables
use Rattle.places.proofs.Head.{put_sync}
use Rattle.places.proofs.Lent.{notes_lent, notes_home}
use Rattle.early.specs.Listed.{chosen}
use Rattle.early.specs.declared.Which.TheVariants.{Any, After, NotAfter}
use Rattle.early.specs.Buffers.{BothHold, early_in, late_in, Both}
use Rattle.syncs.specs.Takes.{late_by, synced_by}
use Rattle.early.proofs.Buffers as buffers
use Rattle.syncs.proofs.Rule.{stays_is, late_is, late_long}

module _ {sh : Shape} {st : State} {b : List ℕ} (g : Midway sh st b) (at n : ℕ) (e : at ≡ start_of sh at_early) (m : n ≡ table_length sh.c + table_length sh.c) where
  -- late begins where early ends
  next : start_of sh at_late ≡ start_of sh at_early + table_length sh.c
  next = omega arith

  both_bytes : take n (drop at b) ≡ table_bytes sh.c st.waiting.early ++ table_bytes sh.c st.waiting.late
  unfolding part
  both_bytes = rw (e, m) (part_add b (start_of sh at_early) (table_length sh.c) (table_length sh.c) ∙ ap₂ ◌++◌ (tables.early_part (midway_laid g)) (ap (λ (a : ℕ). part b a (table_length sh.c)) (sym next) ∙ tables.late_part (midway_laid g)))

  pub both_lent : BothHold sh.c st.waiting.early st.waiting.late (take n (drop at b))
  both_lent =
      let fe = g.holds.early in
      let fl = g.holds.late in
      let x : List ℕ = table_bytes sh.c st.waiting.early in
      let y : List ℕ = table_bytes sh.c st.waiting.late in
      let lx : length x ≡ 4 + 24 * sh.c = table_long sh.c st.waiting.early fe.room in
      let ly : length y ≡ 4 + 24 * sh.c = table_long sh.c st.waiting.late fl.room in
      rw both_bytes (record {
        early = hold sh.c st.waiting.early _ (take_at x y (4 + 24 * sh.c) lx) fe.room g.fits.small fe.each;
        late = hold sh.c st.waiting.late _ (drop_at x y (4 + 24 * sh.c) lx) fl.room g.fits.small fl.each;
        size = length-append x y ∙ ap₂ ◌+◌ lx ly;
      })

  pub both_home : (es ls : List Entry) (x : List ℕ) → BothHold sh.c es ls x → Laid sh (with_waiting es ls st.waiting.notes st) (take at b ++ (x ++ drop n (drop at b)))
  both_home es ls x h =
      let u : List ℕ = table_bytes sh.c es in
      let v : List ℕ = table_bytes sh.c ls in
      let lu : length u ≡ table_length sh.c = table_long sh.c es h.early.room in
      let z : x ≡ u ++ v = sym (take-append-drop (4 + 24 * sh.c) x) ∙ ap₂ ◌++◌ h.early.bytes h.late.bytes in
      let a : start_of sh at_late ≡ start_of sh at_early + length u = next ∙ ap (λ (k : ℕ). start_of sh at_early + k) (sym lu) in
      let w : take at b ++ (x ++ drop n (drop at b)) ≡ splice (splice b (start_of sh at_early) u) (start_of sh at_late) v
      = splice_home b at n x (h.size ∙ sym m)
      ∙ rw (e, z, a) (sym (splice_splice_next b (start_of sh at_early) u v (omega (arith, lu, g.size)))) in
      tables.put_late (tables.put_early (midway_laid g) es h.early.room refl) ls h.late.room w

-- ---- the buffers, the notes, the log and the sync point

module _ {sh : Shape} {st : State} {b : List ℕ} (s : Stands sh st b) (log : List Entry) (last : Entry) (hl : last ≡ last_of log) (at n : ℕ) (e : at ≡ start_of sh at_early) (m : n ≡ table_length sh.c + table_length sh.c) where
  abbrev lent : List ℕ
  lent = take n (drop at b)

  both : BothHold sh.c st.waiting.early st.waiting.late lent
  both = both_lent (stands_midway s) at n e m

  pub is_both : Both sh.c lent
  is_both = buffers.is_both both

  late_counted : length (keep (chosen log Any) (late_in sh.c lent)) + length (keep (chosen log (NotAfter last)) (early_in sh.c lent)) ≡ length (late_by st log)
  late_counted = rw (buffers.early_is both, buffers.late_is both, hl) (late_long st log)

  pub late_asked : length (late_by st log) ≤ sh.c → length (keep (chosen log Any) (late_in sh.c lent)) + length (keep (chosen log (NotAfter last)) (early_in sh.c lent)) ≤ sh.c
  late_asked h = rw late_counted h

  pub late_said : (r : ℕ) → r ≡ length (keep (chosen log Any) (late_in sh.c lent)) + length (keep (chosen log (NotAfter last)) (early_in sh.c lent)) → r ≡ length (late_by st log)
  late_said r q = q ∙ late_counted

  module _ (x : List ℕ) (k : BothHold sh.c (keep (chosen log (After last)) (early_in sh.c lent)) (keep (chosen log Any) (late_in sh.c lent) ++ keep (chosen log (NotAfter last)) (early_in sh.c lent)) x) where
    abbrev b₁ : List ℕ
    b₁ = take at b ++ (x ++ drop n (drop at b))

    laid₁ : Laid sh (with_waiting (stays_early log st.waiting.early) (late_by st log) st.waiting.notes st) b₁
    laid₁ =
        both_home (stands_midway s) at n e m (stays_early log st.waiting.early) (late_by st log) x
        (rw (buffers.early_is both, buffers.late_is both, hl, stays_is log st.waiting.early, late_is st log) at k)

    module _ (at₂ n₂ : ℕ) (e₂ : at₂ ≡ start_of sh at_notes) (m₂ : n₂ ≡ 4 + note_length sh.s * sh.c) where
      noted : NotesHold sh.c sh.s st.waiting.notes (take n₂ (drop at₂ b₁))
      noted = notes_lent laid₁ at₂ n₂ s.fits (stands_fits s).notes e₂ m₂

      pub notes_asked : Notes sh.c sh.s (take n₂ (drop at₂ b₁))
      notes_asked = is_notes sh.c sh.s _ _ noted

      pub taken_over : (y : List ℕ) (to v : ℕ) (b₃ b₄ : List ℕ) → NotesHold sh.c sh.s (notes_without log (notes_at sh.c sh.s (take n₂ (drop at₂ b₁)))) y → length log ≤ sh.c → to ≡ start_of sh at_log
          → b₃ ≡ splice (take at₂ b₁ ++ (y ++ drop n₂ (drop at₂ b₁))) to (table_bytes sh.c log) → b₄ ≡ splice b₃ 24 (le 8 v) → v ≡ length log → b₄ ≡ image sh (synced_by st log)
      unfolding synced_by
      taken_over y to v b₃ b₄ k₂ r t q w z =
          let l₂ = notes_home laid₁ {x = y} at₂ n₂ (notes_without log st.waiting.notes) (rw (decoded sh.c sh.s _ _ noted) at k₂) e₂ m₂ refl in
          let l₃ = tables.put_log l₂ log r (q ∙ rw t) in
          (put_sync l₃ v w).bytes ∙ rw z
