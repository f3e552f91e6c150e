-- The bytes of the log in a state: all entries in use, and one of them; and their digest. Assumes nothing.
use Prim.Native.Nat.{ℕ, ◌+◌, ◌*◌, ◌-◌, ◌≤◌, ◌<◌}
use mathlib.Core.Path.{◌≡◌, refl, sym, ap, ◌∙◌}
use mathlib.Core.List.{List, [], ◌∷◌, ◌++◌}
use native.Mathlib.Omega.{arith}
use lib.ListN.{length, take, drop, get_or, length-append, length-drop, take-append-drop}
use lib.Seq.{get_or-append-add, length-take-le}
use lib.Dec.{lit<, lit≤}
use Rattle.octets.specs.Bytes.{le, part, splice, flat, items}
use Rattle.octets.proofs.Laws.{length_le, part_past, part_front}
use Rattle.octets.proofs.Sections.{part_whole}
use Rattle.octets.proofs.Codecs.{flat_append, back_all}
use Rattle.rules.specs.Entry.{no_entry, entry_of}
use Rattle.rules.specs.Wire.{entry_bytes}
use Rattle.rules.specs.Read.{entry_at}
use Rattle.rules.specs.State.{State}
use Rattle.rules.specs.Image.{table_length, lengths, state_length, table_bytes, sections, state_of, at_early, at_log, at_end}
use Rattle.rules.specs.Digest.{basis, digest_from, digest}
use Rattle.rules.specs.declared.Entry.{Entry}
use Rattle.rules.specs.declared.Shape.{Shape}
use Rattle.rules.proofs.Entries.{EntryFits, long_entry, entry}
use Rattle.rules.proofs.Tables.{flat_long}
use Rattle.rules.proofs.Digest.{digest_next}
use Rattle.rules.proofs.Tests.{at_all}
use Rattle.rules.proofs.Choice.{all_drop}
use Rattle.places.specs.Layout.{longest, start_of, Midway}
use Rattle.places.proofs.Sections.{midway_laid, get_in}
use Rattle.places.proofs.Rows.{within, get_row}
use Rattle.releases.specs.Releasing.{Releasing, Reaches, logging}

-- ---- in a table

module _ (c : ℕ) (es : List Entry) where
  -- all in use from place n on
  rest_in : (n k : ℕ) → n + k ≡ length es → part (table_bytes c es) (4 + 24 * n) (24 * k) ≡ flat entry_bytes (drop n es)
  unfolding table_bytes
  rest_in n k e =
      let l : length (flat entry_bytes es) ≡ 24 * length es = flat_long entry_bytes 24 long_entry es in
      let y : 24 * n + 24 * k ≡ 24 * length es = omega arith in
      let m : length (flat entry_bytes (take n es)) ≡ 24 * n = flat_long entry_bytes 24 long_entry (take n es) ∙ ap (λ (j : ℕ). 24 * j) (length-take-le n es (omega arith)) in
      let r : length (flat entry_bytes (drop n es)) ≡ 24 * k = flat_long entry_bytes 24 long_entry (drop n es) ∙ ap (λ (j : ℕ). 24 * j) (length-drop n es ∙ omega arith) in
      let z : 4 + 24 * n - 4 ≡ 24 * n = omega arith in
      let v : 24 * n - 24 * n ≡ 0 = omega arith in
      part_past (le 4 (length es)) _ 4 (4 + 24 * n) (24 * k) (length_le 4 (length es)) (omega arith)
      ∙ rw z
      (part_front (flat entry_bytes es) _ (24 * n) (24 * k) (omega arith)
      ∙ ap (λ (xs : List Entry). part (flat entry_bytes xs) (24 * n) (24 * k)) (sym (take-append-drop n es))
      ∙ ap (λ (x : List ℕ). part x (24 * n) (24 * k)) (flat_append entry_bytes (take n es) (drop n es))
      ∙ part_past (flat entry_bytes (take n es)) (flat entry_bytes (drop n es)) (24 * n) (24 * n) (24 * k) m (omega arith)
      ∙ rw v (part_whole (flat entry_bytes (drop n es)) (24 * k) (omega arith)))

  entry_in : (i : ℕ) → i < length es → part (table_bytes c es) (4 + 24 * i) 24 ≡ entry_bytes (entry_of es i)
  unfolding table_bytes
  entry_in i l =
      let n : length (flat entry_bytes es) ≡ 24 * length es = flat_long entry_bytes 24 long_entry es in
      let w : 24 * i + 24 ≤ 24 * length es = within 24 i (length es) l in
      let z : 4 + 24 * i - 4 ≡ 24 * i + 0 = omega arith in
      let y : length (entry_bytes (entry_of es i)) ≡ 24 = long_entry (entry_of es i) in
      part_past (le 4 (length es)) _ 4 (4 + 24 * i) 24 (length_le 4 (length es)) (omega arith)
      ∙ rw z
      (part_front (flat entry_bytes es) _ (24 * i + 0) 24 (omega arith)
      ∙ get_row entry_bytes 24 no_entry es i 0 24 (at_all (λ e. length (entry_bytes e) ≡ 24) no_entry es (λ j m. long_entry (entry_of es j))) l (lit≤ tt)
      ∙ part_whole (entry_bytes (entry_of es i)) 24 (omega arith))

-- ---- in a state

module _ {sh : Shape} {st : State} {b : List ℕ} (g : Midway sh st b) where
  -- in the table of section k
  in_section : (k at end i : ℕ) (es : List Entry) → k < at_end sh → get_or (sections sh st) k [] ≡ table_bytes sh.c es → get_or (lengths sh) k 0 ≡ table_length sh.c → length es ≤ sh.c
      → at ≡ start_of sh k + (4 + 24 * i) → end ≡ at + 24 → i < length es → take (end - at) (drop at b) ≡ entry_bytes (entry_of es i)
  unfolding part
  in_section k at end i es hk hs hl r e q h =
      let z : end - at ≡ 24 = omega arith in
      let w : 24 * i + 24 ≤ 24 * length es = within 24 i (length es) h in
      rw z (get_in (midway_laid g) k (4 + 24 * i) at 24 hk e (omega arith) ∙ ap (λ (x : List ℕ). part x (4 + 24 * i) 24) hs ∙ entry_in sh.c es i h)

  pub log_entry : (at end i : ℕ) → at ≡ start_of sh at_log + (4 + 24 * i) → end ≡ at + 24 → i < length st.logged.log → take (end - at) (drop at b) ≡ entry_bytes (entry_of st.logged.log i)
  log_entry at end i = in_section 3 at end i st.logged.log (lit< tt) refl refl g.holds.log.room

  pub early_entry : (at end i : ℕ) → at ≡ start_of sh at_early + (4 + 24 * i) → end ≡ at + 24 → i < length st.waiting.early → take (end - at) (drop at b) ≡ entry_bytes (entry_of st.waiting.early i)
  early_entry at end i = in_section 4 at end i st.waiting.early (lit< tt) refl refl g.holds.early.room

  -- the log from place n on
  pub log_rest : (n k at m : ℕ) → n + k ≡ length st.logged.log → at ≡ start_of sh at_log + (4 + 24 * n) → m ≡ 24 * k → take m (drop at b) ≡ flat entry_bytes (drop n st.logged.log)
  unfolding part
  log_rest n k at m h e q = rw q (get_in (midway_laid g) 3 (4 + 24 * n) at (24 * k) (lit< tt) e (omega (arith, g.holds.log.room)) ∙ rest_in sh.c st.logged.log n k h)

-- where an entry of early stands
pub early_within : (sh : Shape) (p i : ℕ) → p ≡ start_of sh at_early → i < sh.c → state_length sh ≤ longest → (p + (4 + 24 * i) ≡ start_of sh at_early + (4 + 24 * i)) × (p + (4 + 24 * i) + 24 ≤ state_length sh) × (p + (4 + 24 * i) ≤ longest)
early_within sh p i e l s = let w : 24 * i + 24 ≤ 24 * sh.c = within 24 i sh.c l in (omega arith, omega arith, omega arith)

-- ---- the digest

module _ {sh : Shape} {b : List ℕ} (m : Releasing sh b) where
  pub digest_is : (at end r : ℕ) → at ≡ start_of sh at_log + 4 → end ≡ at + 24 * length (state_of sh b).logged.log → r ≡ digest_from basis (take (end - at) (drop at b)) → r ≡ digest (state_of sh b).logged.log
  unfolding digest
  digest_is at end r e z q = q ∙ ap (digest_from basis) (log_rest m.midway 0 (length (state_of sh b).logged.log) at (end - at) (omega arith) (omega arith) (omega arith))

  -- run on over the entry that was appended
  pub digest_runs : {b' : List ℕ} (d : Entry) (at end i sum r : ℕ) → Reaches sh (logging (state_of sh b) d) b' → i ≡ length (state_of sh b).logged.log → sum ≡ digest (state_of sh b).logged.log
      → at ≡ start_of sh at_log + (4 + 24 * i) → end ≡ at + 24 → r ≡ digest_from sum (take (end - at) (drop at b')) → r ≡ digest ((state_of sh b).logged.log ++ (d ∷ []))
  digest_runs {b'} d at end i sum r w hi hs e z q =
      let log = (state_of sh b).logged.log in
      let y : (state_of sh b').logged.log ≡ log ++ (d ∷ []) = ap (λ (x : State). x.logged.log) w.is in
      let long : length (state_of sh b').logged.log ≡ length log + 1 = ap length y ∙ simp length-append in
      let last : entry_of (state_of sh b').logged.log i ≡ d = ap (λ (es : List Entry). entry_of es i) y ∙ last_of_lem log d i hi in
      q ∙ ap (digest_from sum) (log_entry w.releasing.midway at end i e z (omega arith) ∙ ap entry_bytes last) ∙ ap (λ (h : ℕ). digest_from h (entry_bytes d)) hs ∙ sym (digest_next log d)
    where
      last_of_lem : (log : List Entry) (d : Entry) (i : ℕ) → i ≡ length log → entry_of (log ++ (d ∷ [])) i ≡ d
      last_of_lem log d i h = let z : i ≡ length log + 0 = omega arith in rw z (get_or-append-add log (d ∷ []) 0 no_entry)

  -- ---- the log from place n on, copied to the start of other bytes

  module _ (n k at : ℕ) (h : n + k ≡ length (state_of sh b).logged.log) (e : at ≡ start_of sh at_log + (4 + 24 * n)) where
    pub copy_within : at + 24 * k ≤ state_length sh
    copy_within = omega (arith, m.midway.holds.log.room)

    pub copied : (end : ℕ) (t u : List ℕ) → end ≡ at + 24 * k → 24 * k ≤ length t → u ≡ splice t 0 (take (end - at) (drop at b)) → items (entry_at u) 24 0 k ≡ drop n (state_of sh b).logged.log
    unfolding splice
    copied end t u z l q =
        let es : List Entry = drop n (state_of sh b).logged.log in
        let w : take (end - at) (drop at b) ≡ flat entry_bytes es = log_rest m.midway n k at (end - at) h e (omega arith) in
        let y : length es ≡ k = length-drop n (state_of sh b).logged.log ∙ omega arith in
        back_all entry u 0 k es _ (all_drop EntryFits n (state_of sh b).logged.log m.midway.holds.log.each) (sym y) (q ∙ ap (splice t 0) w)
