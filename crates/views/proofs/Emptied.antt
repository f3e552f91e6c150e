-- Zeros from early to the end of replies are the bytes of empty tables. Assumes nothing.
use Prim.Native.Nat.{ℕ, ◌+◌, ◌-◌, ◌*◌, ◌≤◌, ◌<◌}
use mathlib.Core.Path.{◌≡◌, refl, sym, ap, subst, ◌∙◌}
use mathlib.Core.List.{List, [], ◌∷◌, ◌++◌, map, append_assoc}
use native.Mathlib.Omega.{arith}
use lib.ListN.{length, take, drop, replicate}
use lib.Dec.{lit≤}
use Rattle.octets.specs.Bytes.{part, splice}
use Rattle.octets.specs.Sections.{concat, total}
use Rattle.octets.proofs.Laws.{splice_at}
use Rattle.rules.specs.State.{State}
use Rattle.rules.specs.Image.{table_length, note_length, vote_length, reply_length, lengths, state_length, zero_bytes, head_section, sections, image, at_draft, at_early, at_late, at_notes, at_replies, at_votes, at_end}
use Rattle.rules.specs.declared.Shape.{Shape}
use Rattle.rules.proofs.Image.{length_total}
use Rattle.places.specs.Layout.{start_of, Marks, Midway}
use Rattle.places.specs.declared.Places.{Places}
use Rattle.places.proofs.Sections.{Laid, lay, midway_laid}
use Rattle.places.proofs.Spots.{moved}
use Rattle.places.proofs.Zeros.{concat_zeros, long_zeros, table_zeros, notes_zeros, votes_zeros, replies_zeros}
use Rattle.views.specs.Views.{emptied, tables_length, Spare, Kept}
use Rattle.views.proofs.Cleared.{zeros_next, still_long, still, kept_still, early_spare, late_spare, notes_spare, draft_spare, votes_stand, replies_stand}

-- ---- the tables cleared one after the other

-- zeros from early up to z
abbrev Upto : Shape → List ℕ → ℕ → List ℕ → Type 0
Upto sh b z b₁ = b₁ ≡ splice b (start_of sh at_early) (zero_bytes (z - start_of sh at_early))

module _ (sh : Shape) (b : List ℕ) where
  first_cleared : {b₁ : List ℕ} (at n y : ℕ) → b₁ ≡ splice b at (zero_bytes n) → at ≡ start_of sh at_early → y ≡ start_of sh at_early + n → Upto sh b y b₁
  first_cleared {b₁} at n y w e f =
      let d : n ≡ y - start_of sh at_early = omega arith in
      moved b b₁ (zero_bytes n) (zero_bytes (y - start_of sh at_early)) at (start_of sh at_early) w e (ap zero_bytes d)

  next_cleared : {b₁ b₂ : List ℕ} (z at n y : ℕ) → Upto sh b z b₁ → b₂ ≡ splice b₁ at (zero_bytes n) → at ≡ z → y ≡ z + n → start_of sh at_early ≤ z → z ≤ length b → Upto sh b y b₂
  next_cleared {b₁} {b₂} z at n y u w e f h l =
      zeros_next b b₁ b₂ (start_of sh at_early) (z - start_of sh at_early) at n (y - start_of sh at_early) u w (omega arith) (omega arith) (omega arith)

  -- rows that stand behind what was cleared
  rows_ready : {b₁ : List ℕ} (z at k c : ℕ) → Upto sh b z b₁ → start_of sh at_early ≤ z → z ≤ at → at + (4 + k * c) ≤ length b → Spare k c (part b at (4 + k * c)) → (at + (4 + k * c) ≤ length b₁) × Spare k c (part b₁ at (4 + k * c))
  rows_ready {b₁} z at k c u h g l s =
      let a : start_of sh at_early + (z - start_of sh at_early) ≤ at = omega arith in
      let e = still_long b b₁ (start_of sh at_early) (z - start_of sh at_early) u at (4 + k * c) a l in
      (omega (arith, e), subst (Spare k c) (sym (still b b₁ (start_of sh at_early) (z - start_of sh at_early) u at (4 + k * c) a l)) s)

  -- and places
  places_ready : {b₁ : List ℕ} (z at size head c n : ℕ) → Upto sh b z b₁ → start_of sh at_early ≤ z → z ≤ at → size ≡ head + table_length c → at + size * n ≤ length b → 1 ≤ head → ((i : ℕ) → i < n → Kept head c b (at + size * i)) → (size ≡ head + table_length c) × (1 ≤ head) × (at + size * n ≤ length b₁) × ((i : ℕ) → i < n → Kept head c b₁ (at + size * i))
  places_ready {b₁} z at size head c n u h g q l o k =
      let a : start_of sh at_early + (z - start_of sh at_early) ≤ at = omega arith in
      let e = still_long b b₁ (start_of sh at_early) (z - start_of sh at_early) u at (size * n) a l in
      (q, o, omega (arith, e), λ i j. kept_still head c b b₁ (start_of sh at_early) (z - start_of sh at_early) (at + size * i) u (omega arith) o (k i j))

module _ {sh : Shape} {st : State} {b : List ℕ} (m : Midway sh st b) {p : Places} (q : Marks sh p) where
  size : length b ≡ state_length sh
  size = m.size

  pub early_ready : (p.early + (4 + 24 * sh.c) ≤ length b) × Spare 24 sh.c (part b p.early (4 + 24 * sh.c))
  early_ready = (omega (arith, size, q.early), rw q.early (early_spare m))

  module _ {b₁ : List ℕ} (w₁ : b₁ ≡ splice b p.early (zero_bytes (4 + 24 * sh.c))) where
    early_zero : Upto sh b (start_of sh at_late) b₁
    early_zero = first_cleared sh b p.early (4 + 24 * sh.c) (start_of sh at_late) w₁ q.early (omega arith)

    pub late_ready : (p.late + (4 + 24 * sh.c) ≤ length b₁) × Spare 24 sh.c (part b₁ p.late (4 + 24 * sh.c))
    late_ready = rows_ready sh b (start_of sh at_late) p.late 24 sh.c early_zero (omega arith) (omega (arith, q.late)) (omega (arith, size, q.late)) (rw q.late (late_spare m))

    module _ {b₂ : List ℕ} (w₂ : b₂ ≡ splice b₁ p.late (zero_bytes (4 + 24 * sh.c))) where
      late_zero : Upto sh b (start_of sh at_notes) b₂
      late_zero = next_cleared sh b (start_of sh at_late) p.late (4 + 24 * sh.c) (start_of sh at_notes) early_zero w₂ q.late (omega arith) (omega arith) (omega (arith, size))

      pub notes_ready : (p.notes + (4 + p.note * sh.c) ≤ length b₂) × Spare p.note sh.c (part b₂ p.notes (4 + p.note * sh.c))
      notes_ready =
          rw q.note
          (rows_ready sh b (start_of sh at_notes) p.notes (note_length sh.s) sh.c late_zero (omega arith) (omega (arith, q.notes)) (omega (arith, size, q.notes)) (rw q.notes (notes_spare m)))

      module _ {b₃ : List ℕ} (w₃ : b₃ ≡ splice b₂ p.notes (zero_bytes (4 + p.note * sh.c))) where
        notes_zero : Upto sh b (start_of sh at_votes) b₃
        notes_zero =
            let n : p.note * sh.c ≡ note_length sh.s * sh.c = ap (λ (k : ℕ). k * sh.c) q.note in
            next_cleared sh b (start_of sh at_notes) p.notes (4 + p.note * sh.c) (start_of sh at_votes) late_zero w₃ q.notes (omega arith) (omega arith) (omega (arith, size))

        pub votes_ready : (p.vote ≡ 13 + table_length sh.c) × (1 ≤ 13) × (p.votes + p.vote * sh.n ≤ length b₃) × ((i : ℕ) → i < sh.n → Kept 13 sh.c b₃ (p.votes + p.vote * i))
        votes_ready =
            let k : p.vote * sh.n ≡ vote_length sh.c * sh.n = ap (λ (j : ℕ). j * sh.n) q.vote in
            places_ready sh b (start_of sh at_votes) p.votes p.vote 13 sh.c sh.n notes_zero (omega arith) (omega (arith, q.votes)) q.vote (omega (arith, size, q.votes)) (lit≤ tt) (λ i h. rw (q.votes, q.vote) (votes_stand m i h))

        module _ {b₄ : List ℕ} (w₄ : b₄ ≡ splice b₃ p.votes (zero_bytes (p.vote * sh.n))) where
          votes_zero : Upto sh b (start_of sh at_draft) b₄
          votes_zero =
              let k : p.vote * sh.n ≡ vote_length sh.c * sh.n = ap (λ (j : ℕ). j * sh.n) q.vote in
              next_cleared sh b (start_of sh at_votes) p.votes (p.vote * sh.n) (start_of sh at_draft) notes_zero w₄ q.votes (omega arith) (omega arith) (omega (arith, size))

          pub draft_ready : (p.draft + (4 + 24 * sh.c) ≤ length b₄) × Spare 24 sh.c (part b₄ p.draft (4 + 24 * sh.c))
          draft_ready = rows_ready sh b (start_of sh at_draft) p.draft 24 sh.c votes_zero (omega arith) (omega (arith, q.draft)) (omega (arith, size, q.draft)) (rw q.draft (draft_spare (midway_laid m) m.fits.small m.holds.draft.room))

          module _ {b₅ : List ℕ} (w₅ : b₅ ≡ splice b₄ p.draft (zero_bytes (4 + 24 * sh.c))) where
            draft_zero : Upto sh b (start_of sh at_replies) b₅
            draft_zero = next_cleared sh b (start_of sh at_draft) p.draft (4 + 24 * sh.c) (start_of sh at_replies) votes_zero w₅ q.draft (omega arith) (omega arith) (omega (arith, size))

            pub replies_ready : (p.reply ≡ 1 + table_length sh.c) × (1 ≤ 1) × (p.replies + p.reply * sh.s ≤ length b₅) × ((i : ℕ) → i < sh.s → Kept 1 sh.c b₅ (p.replies + p.reply * i))
            replies_ready =
                let k : p.reply * sh.s ≡ reply_length sh.c * sh.s = ap (λ (j : ℕ). j * sh.s) q.reply in
                places_ready sh b (start_of sh at_replies) p.replies p.reply 1 sh.c sh.s draft_zero (omega arith) (omega (arith, q.replies)) q.reply (omega (arith, size, q.replies)) (lit≤ tt) (λ i h. rw (q.replies, q.reply) (replies_stand m i h))

            pub all_zero : {b₆ : List ℕ} → b₆ ≡ splice b₅ p.replies (zero_bytes (p.reply * sh.s)) → b₆ ≡ splice b (start_of sh at_early) (zero_bytes (tables_length sh))
            all_zero w₆ =
                let k : p.reply * sh.s ≡ reply_length sh.c * sh.s = ap (λ (j : ℕ). j * sh.s) q.reply in
                let e : start_of sh (at_end sh) - start_of sh at_early ≡ tables_length sh = omega arith in
                next_cleared sh b (start_of sh at_replies) p.replies (p.reply * sh.s) (start_of sh (at_end sh)) draft_zero w₆ q.replies (omega arith) (omega arith) (omega (arith, size))
                ∙ ap (λ (n : ℕ). splice b (start_of sh at_early) (zero_bytes n)) e

-- ---- sections in a row, some of them replaced

concat_append : (xs ys : List (List ℕ)) → concat (xs ++ ys) ≡ concat xs ++ concat ys
unfolding concat
concat_append [] ys = refl
concat_append (x ∷ xs) ys = ap (λ (z : List ℕ). x ++ z) (concat_append xs ys) ∙ sym (append_assoc x (concat xs) (concat ys))

splice_middle : (xs ys zs ws : List (List ℕ)) → length (concat zs) ≡ length (concat ys) → splice (concat (xs ++ (ys ++ ws))) (total (map length xs)) (concat zs) ≡ concat (xs ++ (zs ++ ws))
splice_middle xs ys zs ws e =
    ap (λ (b : List ℕ). splice b (total (map length xs)) (concat zs)) (concat_append xs (ys ++ ws) ∙ ap (λ (b : List ℕ). concat xs ++ b) (concat_append ys ws))
    ∙ splice_at (concat xs) (concat ys) (concat ws) (concat zs) (total (map length xs)) (length_total xs) (sym e)
    ∙ sym (concat_append xs (zs ++ ws) ∙ ap (λ (b : List ℕ). concat xs ++ b) (concat_append zs ws))

-- ---- of a state

module _ (sh : Shape) (st : State) where
  -- what stands before the tables, they, and what stands behind them
  abbrev before : List (List ℕ)
  before = take 4 (sections sh st)

  abbrev tables : List (List ℕ)
  tables = take 6 (drop 4 (sections sh st))

  abbrev zeros : List (List ℕ)
  zeros = map zero_bytes (take 6 (drop 4 (lengths sh)))

  abbrev behind : List (List ℕ)
  behind = drop 10 (sections sh st)

  emptied_sections : sections sh (emptied sh st) ≡ before ++ (zeros ++ behind)
  unfolding head_section
  emptied_sections = simp (table_zeros sh.c, notes_zeros sh, votes_zeros sh.c sh.n, replies_zeros sh.c sh.s)

module _ {sh : Shape} {st : State} {b : List ℕ} (l : Laid sh st b) where
  pub empty_laid : {b' : List ℕ} → b' ≡ splice b (start_of sh at_early) (replicate (tables_length sh) 0) → Laid sh (emptied sh st) b'
  unfolding image
  empty_laid w =
      let ns = take 6 (drop 4 (lengths sh)) in
      let at : start_of sh at_early ≡ total (map length (before sh st)) = sym (ap (λ (ms : List ℕ). total (take 4 ms)) l.long) in
      let z : zero_bytes (tables_length sh) ≡ concat (zeros sh st) = sym (concat_zeros ns) in
      let n : length (concat (zeros sh st)) ≡ length (concat (tables sh st)) = length_total (zeros sh st) ∙ ap total (long_zeros ns) ∙ sym (length_total (tables sh st) ∙ ap (λ (ms : List ℕ). total (take 6 (drop 4 ms))) l.long) in
      lay
      (w
      ∙ ap (λ (y : List ℕ). splice y (start_of sh at_early) (zero_bytes (tables_length sh))) l.bytes
      ∙ ap (λ (y : List ℕ). splice (concat (sections sh st)) (start_of sh at_early) y) z
      ∙ ap (λ (k : ℕ). splice (concat (sections sh st)) k (concat (zeros sh st))) at
      ∙ splice_middle (before sh st) (tables sh st) (zeros sh st) (behind sh st) n
      ∙ ap concat (sym (emptied_sections sh st)))
      (ap (map length) (emptied_sections sh st)
      ∙ ap (λ (ms : List ℕ). take 4 ms ++ (map length (zeros sh st) ++ drop 10 ms)) l.long
      ∙ ap (λ (ms : List ℕ). take 4 (lengths sh) ++ (ms ++ drop 10 (lengths sh))) (long_zeros ns))
