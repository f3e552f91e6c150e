-- Zeros over what is in use are zeros over all, where what is free is zero already. Assumes nothing.
use Prim.Native.Nat.{ℕ, ◌+◌, ◌-◌, ◌*◌, ◌^◌, ◌≤◌, ◌<◌}
use mathlib.Core.Path.{◌≡◌, refl, sym, ap, subst, ◌∙◌}
use mathlib.Core.Option.{Option, none, some}
use mathlib.Core.List.{List, [], ◌++◌, append_assoc}
use native.Mathlib.Omega.{arith}
use native.Mathlib.Nat.{mul-le-mul_left}
use lib.ListN.{length, take, drop, get_or, length-append, length-replicate, replicate-append-replicate, take-append-drop}
use lib.Seq.{drop-drop}
use lib.Dec.{lit<, lit≤}
use Rattle.octets.specs.Bytes.{le, num, part, splice, flat, items}
use Rattle.octets.proofs.Laws.{bytes_known, length_le, length_part, part_at, length_splice, part_past, part_part, num_part, part_splice_before, num_splice_before, splice_none, splice_next}
use Rattle.octets.proofs.Sections.{part_whole}
use Rattle.octets.proofs.Codecs.{All, long_all, length_items, back_number}
use Rattle.rules.specs.Wire.{entry_bytes}
use Rattle.rules.specs.Read.{entry_at}
use Rattle.rules.specs.State.{Note, Vote, State}
use Rattle.rules.specs.Image.{table_length, note_length, vote_length, reply_length, lengths, zero_bytes, table_bytes, notes_section, vote_bytes, reply_bytes, sections, at_draft, at_early, at_late, at_log, at_notes, at_replies, at_votes, at_end}
use Rattle.rules.specs.declared.Entry.{Entry}
use Rattle.rules.specs.declared.Shape.{Shape}
use Rattle.rules.proofs.Tests.{all-1, all_at}
use Rattle.rules.proofs.Entries.{long_entry}
use Rattle.rules.proofs.Tables.{flat_long, table_long, VoteFits, vote, ReplyFits, reply, NotesFit, note}
use Rattle.entries.proofs.Copies.{read_bytes}
use Rattle.places.specs.Layout.{start_of, Midway}
use Rattle.places.proofs.Sections.{Laid, midway_laid, get_in}
use Rattle.places.proofs.Tables.{log_part, early_part, late_part, notes_part, draft_part}
use Rattle.places.proofs.Rows.{within, Even, get_row}
use Rattle.places.proofs.Zeros.{table_zeros}
use Rattle.views.specs.Views.{Spare, Kept}

-- ---- a write whose end stands there already

pub splice_kept : (b : List ℕ) (at : ℕ) (x y : List ℕ) → part b (at + length x) (length y) ≡ y → splice b at (x ++ y) ≡ splice b at x
unfolding splice part
splice_kept b at x y e =
    let m : ℕ = at + length x in
    let n : at + length (x ++ y) ≡ m + length y = omega (arith, length-append x y) in
    let q : drop (at + length (x ++ y)) b ≡ drop (length y) (drop m b) = ap (λ (k : ℕ). drop k b) n ∙ sym (drop-drop (length y) m b) in
    let d : y ++ drop (length y) (drop m b) ≡ drop m b = ap (λ (z : List ℕ). z ++ drop (length y) (drop m b)) (sym e) ∙ take-append-drop (length y) (drop m b) in
    ap (λ (z : List ℕ). take at b ++ z) (append_assoc x y (drop (at + length (x ++ y)) b) ∙ ap (λ (z : List ℕ). x ++ (y ++ z)) q ∙ ap (λ (z : List ℕ). x ++ z) d)

zeros_kept : (b : List ℕ) (at m n : ℕ) → part b (at + m) n ≡ zero_bytes n → splice b at (zero_bytes (m + n)) ≡ splice b at (zero_bytes m)
zeros_kept b at m n e =
    let f : part b (at + length (zero_bytes m)) (length (zero_bytes n)) ≡ zero_bytes n = rw (length-replicate {A = ℕ} m 0, length-replicate {A = ℕ} n 0) e in
    ap (splice b at) (sym (replicate-append-replicate {A = ℕ} m n 0)) ∙ splice_kept b at (zero_bytes m) (zero_bytes n) f

-- nothing is to be cleared
zeros_stand : (b : List ℕ) (at n : ℕ) → part b at n ≡ zero_bytes n → b ≡ splice b at (zero_bytes n)
zeros_stand b at n e =
    let a : at + 0 ≡ at = omega arith in
    let k : 0 + n ≡ n = omega arith in
    sym (ap (λ (j : ℕ). splice b at (zero_bytes j)) (sym k) ∙ zeros_kept b at 0 n (rw a e) ∙ splice_none b at)

-- zeros, and then the next
pub zeros_next : (b b₁ b₂ : List ℕ) (at m p n k : ℕ) → b₁ ≡ splice b at (zero_bytes m) → b₂ ≡ splice b₁ p (zero_bytes n) → p ≡ at + m → k ≡ m + n → at + m ≤ length b → b₂ ≡ splice b at (zero_bytes k)
zeros_next b b₁ b₂ at m p n k w₁ w₂ e f h =
    splice_next b at m (zero_bytes m) (zero_bytes n) b₁ b₂ h (length-replicate {A = ℕ} m 0) w₁ (w₂ ∙ ap (λ (j : ℕ). splice b₁ j (zero_bytes n)) e)
    ∙ ap (splice b at) (replicate-append-replicate {A = ℕ} m n 0 ∙ ap zero_bytes (sym f))

-- what stands behind the zeros still does
module _ (b b₁ : List ℕ) (at m : ℕ) (w : b₁ ≡ splice b at (zero_bytes m)) (p n : ℕ) (h : at + m ≤ p) (l : p + n ≤ length b) where
  long : at + length (zero_bytes m) ≤ length b
  long = rw (length-replicate {A = ℕ} m 0) (omega arith)

  past : at + length (zero_bytes m) ≤ p
  past = rw (length-replicate {A = ℕ} m 0) h

  pub still_long : length b₁ ≡ length b
  still_long = ap length w ∙ length_splice b at (zero_bytes m) long

  pub still : part b₁ p n ≡ part b p n
  still = ap (λ (x : List ℕ). part x p n) w ∙ part_splice_before b at (zero_bytes m) p n long past

  still_num : num b₁ p 1 ≡ num b p 1
  still_num = ap (λ (x : List ℕ). num x p 1) w ∙ num_splice_before b at (zero_bytes m) p 1 long past

-- ---- rows

spare_rows : (k c n : ℕ) (y x : List ℕ) → length y ≡ k * n → n ≤ c → n < 256 ^ 4 → x ≡ le 4 n ++ (y ++ zero_bytes (k * (c - n))) → Spare k c x
spare_rows k c n y x l r u e =
    let z : List ℕ = zero_bytes (k * (c - n)) in
    let lz : length z ≡ k * (c - n) = length-replicate {A = ℕ} (k * (c - n)) 0 in
    let d : c ≡ n + (c - n) = omega arith in
    let kd : k * c ≡ k * n + k * (c - n) = omega (arith, ap (λ (j : ℕ). k * j) d) in
    let q : num x 0 4 ≡ n = back_number 4 x 0 n (y ++ z) u e in
    let kq : k * num x 0 4 ≡ k * n = ap (λ (j : ℕ). k * j) q in
    record {
      size = ap length e ∙ length-append (le 4 n) (y ++ z) ∙ omega (arith, length_le 4 n, length-append y z);
      room = omega arith;
      free = λ rest f.
          let s : rest ≡ k * (c - n) = omega arith in
          let i : 4 + k * num x 0 4 - 4 ≡ k * n = omega arith in
          let o : k * n - k * n ≡ 0 = omega arith in
          ap (λ (t : List ℕ). part t (4 + k * num x 0 4) rest) e
          ∙ part_past (le 4 n) (y ++ z) 4 (4 + k * num x 0 4) rest (length_le 4 n) (omega arith)
          ∙ ap (λ (j : ℕ). part (y ++ z) j rest) i
          ∙ part_past y z (k * n) (k * n) rest l (omega arith)
          ∙ ap (λ (j : ℕ). part z j rest) o
          ∙ part_whole z rest (omega arith)
          ∙ ap zero_bytes (sym s);
    }

spare_table : (c : ℕ) (es : List Entry) (x : List ℕ) → length es ≤ c → c ≤ 4096 → x ≡ table_bytes c es → Spare 24 c x
unfolding table_bytes
spare_table c es x r s e = spare_rows 24 c (length es) (flat entry_bytes es) x (flat_long entry_bytes 24 long_entry es) r (omega arith) e

spare_notes : (sh : Shape) (xs : List Note) (x : List ℕ) → NotesFit sh xs → x ≡ notes_section sh xs → Spare (note_length sh.s) sh.c x
unfolding notes_section
spare_notes sh xs x f e = spare_rows (note_length sh.s) sh.c (length xs) (flat _ xs) x (long_all (note sh.s) xs f.each) f.room (omega (arith, f.room, f.counted)) e

module _ (k c at count : ℕ) (b : List ℕ) (h : at + (4 + k * c) ≤ length b) (s : Spare k c (part b at (4 + k * c))) (n : count ≡ num b at 4) where
  count_is : num (part b at (4 + k * c)) 0 4 ≡ count
  count_is = num_part b at (4 + k * c) 0 at 4 h (omega arith) (omega arith) ∙ sym n

  -- the rows counted have room
  pub rows_within : k * count ≤ k * c
  rows_within = let r : count ≤ c = omega (arith, s.room, count_is) in mul-le-mul_left k r

  pub rows_cleared : {b' : List ℕ} → b' ≡ splice b at (zero_bytes (4 + k * count)) → b' ≡ splice b at (zero_bytes (4 + k * c))
  rows_cleared w =
      let rest : ℕ = k * c - k * count in
      let u : k * count + rest ≡ k * c = omega (arith, rows_within) in
      let kn : k * num (part b at (4 + k * c)) 0 4 ≡ k * count = ap (λ (j : ℕ). k * j) count_is in
      let f : part (part b at (4 + k * c)) (4 + k * num (part b at (4 + k * c)) 0 4) rest ≡ zero_bytes rest = s.free rest (omega arith) in
      let g : part b (at + (4 + k * count)) rest ≡ zero_bytes rest = sym (part_part b at (4 + k * c) (4 + k * count) rest h (omega arith)) ∙ ap (λ (j : ℕ). part (part b at (4 + k * c)) (4 + j) rest) (sym kn) ∙ f in
      let v : 4 + k * count + rest ≡ 4 + k * c = omega arith in
      w ∙ sym (zeros_kept b at (4 + k * count) rest g) ∙ ap (λ (j : ℕ). splice b at (zero_bytes j)) v

-- ---- a place

module _ (head c at : ℕ) (b : List ℕ) (k : Kept head c b at) where
  pub place_unset : (flag : ℕ) → flag ≡ num b at 1 → flag ≡ 0 → b ≡ splice b at (zero_bytes (head + table_length c))
  place_unset flag e z = zeros_stand b at (head + table_length c) (k.unset (sym e ∙ z))

  module _ (b₁ : List ℕ) (w : b₁ ≡ splice b at (zero_bytes head)) where
    -- the table behind the head
    pub place_table : (at + head + (4 + 24 * c) ≤ length b₁) × Spare 24 c (part b₁ (at + head) (4 + 24 * c))
    place_table =
        let l : at + head + (4 + 24 * c) ≤ length b = omega (arith, k.within) in
        let e = still_long b b₁ at head w (at + head) (4 + 24 * c) (omega arith) l in
        (omega (arith, e), subst (Spare 24 c) (sym (still b b₁ at head w (at + head) (4 + 24 * c) (omega arith) l)) k.table)

    pub place_cleared : {b₂ : List ℕ} → b₂ ≡ splice b₁ (at + head) (zero_bytes (4 + 24 * c)) → b₂ ≡ splice b at (zero_bytes (head + table_length c))
    place_cleared {b₂} w₂ = zeros_next b b₁ b₂ at head (at + head) (4 + 24 * c) (head + table_length c) w w₂ refl refl (omega (arith, k.within))

-- a place behind what was cleared
pub kept_still : (head c : ℕ) (b b₁ : List ℕ) (at m p : ℕ) → b₁ ≡ splice b at (zero_bytes m) → at + m ≤ p → 1 ≤ head → Kept head c b p → Kept head c b₁ p
kept_still head c b b₁ at m p w h o k =
    let n : ℕ = head + table_length c in
    let l : p + n ≤ length b = k.within in
    let e = still_long b b₁ at m w p n h l in
    record {
      within = omega (arith, e);
      unset = λ z. still b b₁ at m w p n h l ∙ k.unset (sym (still_num b b₁ at m w p n h l) ∙ z);
      table = subst (Spare 24 c) (sym (still b b₁ at m w (p + head) (table_length c) (omega arith) (omega arith))) k.table;
    }

-- ---- places side by side

pub none_cleared : (b : List ℕ) (at k : ℕ) → b ≡ splice b at (zero_bytes (k * 0))
none_cleared b at k =
    let z : k * 0 ≡ 0 = omega arith in
    rw z (sym (splice_none b at))

pub places_turn : (at n i k m : ℕ) (b b₁ b₂ : List ℕ) → at + k * n ≤ length b → i < n → k ≡ m → b₁ ≡ splice b at (zero_bytes (k * i)) → b₂ ≡ splice b₁ (at + k * i) (zero_bytes m) → b₂ ≡ splice b at (zero_bytes (k * (i + 1)))
places_turn at n i k m b b₁ b₂ l h q w₁ w₂ =
    let e : k * (i + 1) ≡ k * i + m = omega arith in
    zeros_next b b₁ b₂ at (k * i) (at + k * i) m (k * (i + 1)) w₁ w₂ refl e (omega (arith, within k i n h))

kept_none : (head c at : ℕ) (b : List ℕ) → at + (head + table_length c) ≤ length b → c ≤ 4096 → part b at (head + table_length c) ≡ zero_bytes (head + table_length c) → Kept head c b at
kept_none head c at b l s e =
    let lh : length (zero_bytes head) ≡ head = length-replicate {A = ℕ} head 0 in
    let o : head - head ≡ 0 = omega arith in
    let t : part b (at + head) (table_length c) ≡ zero_bytes (table_length c)
    = sym (part_part b at (head + table_length c) head (table_length c) l (omega arith))
    ∙ ap (λ (x : List ℕ). part x head (table_length c)) (e ∙ sym (replicate-append-replicate {A = ℕ} head (table_length c) 0))
    ∙ part_past (zero_bytes head) (zero_bytes (table_length c)) head head (table_length c) lh (omega arith)
    ∙ ap (λ (j : ℕ). part (zero_bytes (table_length c)) j (table_length c)) o
    ∙ part_whole (zero_bytes (table_length c)) (table_length c) (omega (arith, length-replicate {A = ℕ} (table_length c) 0)) in
    record { within = l; unset = λ z. e; table = spare_table c [] _ (omega arith) s (t ∙ sym (table_zeros c)) }

kept_some : (head c at : ℕ) (b x : List ℕ) (es : List Entry) → at + (head + table_length c) ≤ length b → c ≤ 4096 → length es ≤ c → part b at (head + table_length c) ≡ le 1 1 ++ x → part (le 1 1 ++ x) head (table_length c) ≡ table_bytes c es → Kept head c b at
kept_some head c at b x es l s r e t =
    let n : ℕ = head + table_length c in
    let f : num b at 1 ≡ 1 = sym (num_part b at n 0 at 1 l (omega arith) (omega arith)) ∙ back_number 1 (part b at n) 0 1 x (lit< tt) e in
    record {
      within = l;
      unset = λ z. absurd (omega arith);
      table = spare_table c es _ r s (sym (part_part b at n head (table_length c) l (omega arith)) ∙ ap (λ (y : List ℕ). part y head (table_length c)) e ∙ t);
    }

-- what is kept of a vote, and of a reply
vote_stands : (c at : ℕ) (b : List ℕ) (o : Option Vote) → VoteFits c o → at + vote_length c ≤ length b → c ≤ 4096 → part b at (vote_length c) ≡ vote_bytes c o → Kept 13 c b at
unfolding vote_bytes
vote_stands c at b none f l s e = kept_none 13 c at b l s e
vote_stands c at b (some v) f l s e =
    let n : ℕ = table_length c in
    let t : List ℕ = table_bytes c v.log in
    kept_some 13 c at b (le 4 v.normal ++ (le 8 v.sync ++ t)) v.log l s f.log.room e
    (part_past (le 1 1) (le 4 v.normal ++ (le 8 v.sync ++ t)) 1 13 n (length_le 1 1) (lit≤ tt)
    ∙ part_past (le 4 v.normal) (le 8 v.sync ++ t) 4 12 n (length_le 4 v.normal) (lit≤ tt)
    ∙ part_past (le 8 v.sync) t 8 8 n (length_le 8 v.sync) (lit≤ tt)
    ∙ part_whole t n (omega (arith, table_long c v.log f.log.room)))

reply_stands : (c at : ℕ) (b : List ℕ) (o : Option (List Entry)) → ReplyFits c o → at + reply_length c ≤ length b → c ≤ 4096 → part b at (reply_length c) ≡ reply_bytes c o → Kept 1 c b at
unfolding reply_bytes
reply_stands c at b none f l s e = kept_none 1 c at b l s e
reply_stands c at b (some es) f l s e =
    let n : ℕ = table_length c in
    kept_some 1 c at b (table_bytes c es) es l s f.room e
    (part_past (le 1 1) (table_bytes c es) 1 1 n (length_le 1 1) (lit≤ tt) ∙ part_whole (table_bytes c es) n (omega (arith, table_long c es f.room)))

-- ---- of a state

module _ {sh : Shape} {st : State} {b : List ℕ} (l : Laid sh st b) (s : sh.c ≤ 4096) where
  pub log_spare : length st.logged.log ≤ sh.c → Spare 24 sh.c (part b (start_of sh at_log) (table_length sh.c))
  log_spare r = spare_table sh.c st.logged.log _ r s (log_part l)

  pub draft_spare : length st.change.draft ≤ sh.c → Spare 24 sh.c (part b (start_of sh at_draft) (table_length sh.c))
  draft_spare r = spare_table sh.c st.change.draft _ r s (draft_part l)

  -- place r of a section that is a row of n things, each of k bytes
  place_is : {A : Type 0} (put : A → List ℕ) (k n i r : ℕ) (xs : List A) (d : A) → i < at_end sh → get_or (sections sh st) i [] ≡ flat put xs → get_or (lengths sh) i 0 ≡ k * n → Even put k xs → length xs ≡ n → r < n → length (put (get_or xs r d)) ≡ k → part b (start_of sh i + k * r) k ≡ put (get_or xs r d)
  place_is put k n i r xs d h q z f e u v =
      let w : k * r + 0 + k ≤ get_or (lengths sh) i 0 = omega (arith, within k r n u) in
      let a : start_of sh i + k * r ≡ start_of sh i + (k * r + 0) = omega arith in
      let y : r < length xs = omega arith in
      get_in l i (k * r + 0) (start_of sh i + k * r) k h a w
      ∙ ap (λ (x : List ℕ). part x (k * r + 0) k) q
      ∙ get_row put k d xs r 0 k f y (omega arith)
      ∙ part_whole (put (get_or xs r d)) k (omega arith)

  pub vote_kept : All (VoteFits sh.c) st.change.votes → length st.change.votes ≡ sh.n → (r : ℕ) → r < sh.n → Kept 13 sh.c b (start_of sh at_votes + vote_length sh.c * r)
  vote_kept f n r h =
      let o : Option Vote = get_or st.change.votes r none in
      let g : VoteFits sh.c o = all_at (VoteFits sh.c) none st.change.votes f r (omega arith) in
      vote_stands sh.c (start_of sh at_votes + vote_length sh.c * r) b o g (omega (arith, within (vote_length sh.c) r sh.n h, l.size)) s
      (place_is (vote_bytes sh.c) (vote_length sh.c) sh.n 7 r st.change.votes none (lit< tt) refl refl (all-1 (vote sh.c).long st.change.votes f) n h ((vote sh.c).long o g))

  pub reply_kept : All (ReplyFits sh.c) st.change.replies → length st.change.replies ≡ sh.s → (j : ℕ) → j < sh.s → Kept 1 sh.c b (start_of sh at_replies + reply_length sh.c * j)
  reply_kept f n j h =
      let o : Option (List Entry) = get_or st.change.replies j none in
      let g : ReplyFits sh.c o = all_at (ReplyFits sh.c) none st.change.replies f j (omega arith) in
      reply_stands sh.c (start_of sh at_replies + reply_length sh.c * j) b o g (omega (arith, within (reply_length sh.c) j sh.s h, l.size)) s
      (place_is (reply_bytes sh.c) (reply_length sh.c) sh.s 9 j st.change.replies none (lit< tt) refl refl (all-1 (reply sh.c).long st.change.replies f) n h ((reply sh.c).long o g))

module _ {sh : Shape} {st : State} {b : List ℕ} (m : Midway sh st b) where
  pub early_spare : Spare 24 sh.c (part b (start_of sh at_early) (table_length sh.c))
  early_spare = spare_table sh.c st.waiting.early _ m.holds.early.room m.fits.small (early_part (midway_laid m))

  pub late_spare : Spare 24 sh.c (part b (start_of sh at_late) (table_length sh.c))
  late_spare = spare_table sh.c st.waiting.late _ m.holds.late.room m.fits.small (late_part (midway_laid m))

  pub notes_spare : Spare (note_length sh.s) sh.c (part b (start_of sh at_notes) (4 + note_length sh.s * sh.c))
  notes_spare = spare_notes sh st.waiting.notes _ m.holds.notes (notes_part (midway_laid m))

  pub votes_stand : (r : ℕ) → r < sh.n → Kept 13 sh.c b (start_of sh at_votes + vote_length sh.c * r)
  votes_stand = vote_kept (midway_laid m) m.fits.small m.holds.votes m.holds.vote_places

  pub replies_stand : (j : ℕ) → j < sh.s → Kept 1 sh.c b (start_of sh at_replies + reply_length sh.c * j)
  replies_stand = reply_kept (midway_laid m) m.fits.small m.holds.replies m.holds.reply_places

-- ---- a table written over another: what was free and stays free is not written

pub part_zeros : (n i k : ℕ) → i + k ≤ n → part (zero_bytes n) i k ≡ zero_bytes k
part_zeros n i k h =
    let r : ℕ = n - (i + k) in
    let e : n ≡ i + (k + r) = omega arith in
    ap (λ (j : ℕ). part (zero_bytes j) i k) e
    ∙ ap (λ (x : List ℕ). part x i k) (sym (replicate-append-replicate {A = ℕ} i (k + r) 0) ∙ ap (λ (x : List ℕ). zero_bytes i ++ x) (sym (replicate-append-replicate {A = ℕ} k r 0)))
    ∙ part_at (zero_bytes i) (zero_bytes k) (zero_bytes r) i k (length-replicate {A = ℕ} i 0) (length-replicate {A = ℕ} k 0)

module _ (k c at count : ℕ) (b : List ℕ) (h : at + (4 + k * c) ≤ length b) (s : Spare k c (part b at (4 + k * c))) (n : count ≡ num b at 4) where
  -- from any place behind the rows on
  pub free_from : (i rest : ℕ) → k * count ≤ i → i + rest ≡ k * c → part b (at + (4 + i)) rest ≡ zero_bytes rest
  free_from i rest l e =
      let x : List ℕ = part b at (4 + k * c) in
      let all : ℕ = k * c - k * count in
      let q : k * num x 0 4 ≡ k * count = ap (λ (j : ℕ). k * j) (count_is k c at count b h s n) in
      let f : part x (4 + k * num x 0 4) all ≡ zero_bytes all = s.free all (omega arith) in
      let g : part x (4 + k * count) all ≡ zero_bytes all = ap (λ (j : ℕ). part x (4 + j) all) (sym q) ∙ f in
      let d : ℕ = i - k * count in
      let o : 4 + k * count + d ≡ 4 + i = omega arith in
      sym (part_part b at (4 + k * c) (4 + i) rest h (omega arith))
      ∙ ap (λ (j : ℕ). part x j rest) (sym o)
      ∙ sym (part_part x (4 + k * count) all d rest (omega (arith, s.size)) (omega arith))
      ∙ ap (λ (y : List ℕ). part y d rest) g
      ∙ part_zeros all d rest (omega arith)

module _ (c to at n m old : ℕ) (b s : List ℕ) (known : (i : ℕ) → get_or s i 0 < 256) (h : to + table_length c ≤ length b) (sp : Spare 24 c (part b to (table_length c))) (r : n ≤ c) (l : at + 24 * n ≤ length s) (o : old ≡ num b to 4) (e : m ≡ 24 * n)
    (b₁ b₂ : List ℕ) (w₁ : b₁ ≡ splice b to (le 4 n)) (w₂ : b₂ ≡ splice b₁ (to + 4) (take m (drop at s))) where
  abbrev es : List Entry
  es = items (entry_at s) 24 at n

  abbrev used : List ℕ
  used = le 4 n ++ flat entry_bytes es

  used_long : length used ≡ 4 + 24 * n
  used_long = length-append (le 4 n) (flat entry_bytes es) ∙ omega (arith, length_le 4 n, ap length (read_bytes s at n (bytes_known s known) l) ∙ length_part s at (24 * n) l)

  used_written : b₂ ≡ splice b to used
  unfolding part
  used_written =
      let x : take m (drop at s) ≡ flat entry_bytes es = ap (λ (k : ℕ). take k (drop at s)) e ∙ sym (read_bytes s at n (bytes_known s known) l) in
      splice_next b to 4 (le 4 n) (flat entry_bytes es) b₁ b₂ (omega arith) (length_le 4 n) w₁ (w₂ ∙ ap (splice b₁ (to + 4)) x)

  -- with zeros to the end it is the table
  table_of : (k : ℕ) → k ≡ 24 * (c - n) → used ++ zero_bytes k ≡ table_bytes c es
  unfolding table_bytes
  table_of k q = rw (q, length_items (entry_at s) 24 at n) (append_assoc (le 4 n) (flat entry_bytes es) (zero_bytes (24 * (c - n))))

  -- no fewer than there were
  pub renewed : old ≤ n → b₂ ≡ splice b to (table_bytes c es)
  renewed g =
      let k : ℕ = 24 * c - 24 * n in
      let z : length (zero_bytes k) ≡ k = length-replicate {A = ℕ} k 0 in
      let f : part b (to + length used) (length (zero_bytes k)) ≡ zero_bytes k = rw (used_long, z) (free_from 24 c to old b h sp o (24 * n) k (omega arith) (omega arith)) in
      used_written ∙ sym (splice_kept b to used (zero_bytes k) f) ∙ ap (splice b to) (table_of k (omega arith))

  -- fewer: the rows that are left are cleared
  pub renewed_shorter : {b₃ : List ℕ} → n < old → b₃ ≡ splice b₂ (to + (4 + 24 * n)) (zero_bytes (24 * (old - n))) → b₃ ≡ splice b to (table_bytes c es)
  renewed_shorter {b₃} g w₃ =
      let u : old ≤ c = omega (arith, sp.room, count_is 24 c to old b h sp o) in
      let j : ℕ = 24 * (old - n) in
      let k : ℕ = 24 * c - 24 * old in
      let lj : length (zero_bytes j) ≡ j = length-replicate {A = ℕ} j 0 in
      let lk : length (zero_bytes k) ≡ k = length-replicate {A = ℕ} k 0 in
      let w : b₃ ≡ splice b to (used ++ zero_bytes j) = splice_next b to (4 + 24 * n) used (zero_bytes j) b₂ b₃ (omega arith) used_long used_written w₃ in
      let a : to + length (used ++ zero_bytes j) ≡ to + (4 + 24 * old) = omega (arith, length-append used (zero_bytes j), used_long) in
      let f : part b (to + length (used ++ zero_bytes j)) (length (zero_bytes k)) ≡ zero_bytes k = rw (a, lk) (free_from 24 c to old b h sp o (24 * old) k (omega arith) (omega arith)) in
      w ∙ sym (splice_kept b to (used ++ zero_bytes j) (zero_bytes k) f)
      ∙ ap (splice b to) (append_assoc used (zero_bytes j) (zero_bytes k) ∙ ap (λ (x : List ℕ). used ++ x) (replicate-append-replicate {A = ℕ} j k 0) ∙ table_of (j + k) (omega arith))
