-- What is written in pieces at the place of a vote or a reply, as one write. Assumes nothing.
use Prim.Native.Nat.{ℕ, ◌+◌, ◌-◌, ◌*◌, ◌≤◌}
use mathlib.Core.Path.{◌≡◌, refl, sym, ap, subst, ◌∙◌}
use mathlib.Core.Option.{some}
use mathlib.Core.List.{List, ◌++◌, append_assoc}
use native.Mathlib.Omega.{arith}
use lib.ListN.{length, length-append, length-replicate}
use Rattle.octets.specs.Bytes.{le, num, part, splice}
use Rattle.octets.proofs.Laws.{length_le, length_part, length_splice, part_add, part_part, splice_next, part_splice_before, part_splice_after}
use Rattle.rules.specs.Image.{table_length, vote_length, state_length, zero_bytes, table_bytes, vote_bytes, reply_bytes, at_log, at_votes}
use Rattle.rules.specs.declared.Entry.{Entry}
use Rattle.rules.specs.declared.Shape.{Shape}
use Rattle.places.specs.Layout.{start_of, PlaceAt, own_bytes}
use Rattle.places.proofs.Spots.{moved}
use Rattle.views.specs.Views.{Spare, Kept}
use Rattle.views.proofs.Cleared.{splice_kept, part_zeros, rows_within, free_from}

-- ---- a vote

pub vote_begun : (b b1 b2 b3 : List ℕ) (a n s : ℕ) → a + 13 ≤ length b → b1 ≡ splice b a (le 1 1) → b2 ≡ splice b1 (a + 1) (le 4 n) → b3 ≡ splice b2 (a + 5) (le 8 s) → b3 ≡ splice b a (le 1 1 ++ (le 4 n ++ le 8 s))
vote_begun b b1 b2 b3 a n s h w1 w2 w3 =
    let l : length (le 1 1 ++ le 4 n) ≡ 5 = simp (length-append, length_le) in
    splice_next b a 5 (le 1 1 ++ le 4 n) (le 8 s) b2 b3 (omega arith) l (splice_next b a 1 (le 1 1) (le 4 n) b1 b2 (omega arith) (length_le 1 1) w1 w2) w3
    ∙ ap (splice b a) (append_assoc (le 1 1) (le 4 n) (le 8 s))

vote_joined : (b b1 b2 t : List ℕ) (a n s : ℕ) → a + 13 ≤ length b → b1 ≡ splice b a (le 1 1 ++ (le 4 n ++ le 8 s)) → b2 ≡ splice b1 (a + 13) t → b2 ≡ splice b a (le 1 1 ++ (le 4 n ++ (le 8 s ++ t)))
vote_joined b b1 b2 t a n s h w1 w2 =
    let l : length (le 1 1 ++ (le 4 n ++ le 8 s)) ≡ 13 = simp (length-append, length_le) in
    splice_next b a 13 (le 1 1 ++ (le 4 n ++ le 8 s)) t b1 b2 h l w1 w2 ∙ ap (splice b a) (simp append_assoc)

pub vote_kept : (b b1 b2 : List ℕ) (a x c n s : ℕ) (es : List Entry) → a + 13 ≤ length b → a ≡ x → b1 ≡ splice b a (le 1 1 ++ (le 4 n ++ le 8 s)) → b2 ≡ splice b1 (a + 13) (table_bytes c es) → b2 ≡ splice b x (vote_bytes c (some (record { normal = n; sync = s; log = es })))
unfolding vote_bytes
vote_kept b b1 b2 a x c n s es h e w1 w2 = moved b b2 _ _ a x (vote_joined b b1 b2 (table_bytes c es) a n s h w1 w2) e refl

-- the table of a vote or a reply, once what stands before it is written
pub table_behind : (b b1 x : List ℕ) (a at head c : ℕ) → Kept head c b at → a ≡ at → length x ≡ head → b1 ≡ splice b a x → (a + head + table_length c ≤ length b1) × Spare 24 c (part b1 (a + head) (table_length c))
table_behind b b1 x a at head c k e l w =
    let h : a + length x ≤ length b = omega (arith, k.within) in
    let n : length b1 ≡ length b = ap length w ∙ length_splice b a x h in
    let d : part b1 (a + head) (table_length c) ≡ part b (at + head) (table_length c) = ap (λ (y : List ℕ). part y (a + head) (table_length c)) w ∙ part_splice_before b a x (a + head) (table_length c) h (omega arith) ∙ ap (λ (i : ℕ). part b (i + head) (table_length c)) e in
    (omega (arith, k.within), subst (Spare 24 c) (sym d) k.table)

-- what stands before the log of a vote
pub begun_long : (n s : ℕ) → length (le 1 1 ++ (le 4 n ++ le 8 s)) ≡ 13
begun_long n s = simp (length-append, length_le)

-- the own vote: its log lies before it, so it is still what it was; behind its entries it is zeros, as is the place of the vote
module _ (sh : Shape) (b : List ℕ) (log a n s r count : ℕ) (e : log ≡ start_of sh at_log) (l : length b ≡ state_length sh) (en : n ≡ num b 12 4) (es : s ≡ num b 24 8) (er : r ≡ num b 1 1) (q : PlaceAt sh 7 (vote_length sh.c) r a)
    (sp : Spare 24 sh.c (part b (start_of sh at_log) (table_length sh.c))) (z : part b (start_of sh at_votes + vote_length sh.c * num b 1 1) (vote_length sh.c) ≡ zero_bytes (vote_length sh.c)) (k : count ≡ num b log 4) where
  count_here : count ≡ num b (start_of sh at_log) 4
  count_here = k ∙ ap (λ (i : ℕ). num b i 4) e

  pub own_room : 24 * count ≤ 24 * sh.c
  own_room = rows_within 24 sh.c (start_of sh at_log) count b (omega arith) sp count_here

  pub own_kept : (b1 b2 : List ℕ) → b1 ≡ splice b a (le 1 1 ++ (le 4 n ++ le 8 s)) → b2 ≡ splice b1 (a + 13) (part b1 log (4 + 24 * count)) → b2 ≡ splice b (start_of sh at_votes + vote_length sh.c * num b 1 1) (own_bytes sh b)
  unfolding own_bytes
  own_kept b1 b2 w1 w2 =
      let at : ℕ = start_of sh at_log in
      let used : ℕ = 4 + 24 * count in
      let rest : ℕ = 24 * sh.c - 24 * count in
      let ea : a ≡ start_of sh at_votes + vote_length sh.c * num b 1 1 = q.at ∙ ap (λ (i : ℕ). start_of sh at_votes + vote_length sh.c * i) er in
      let f : at + table_length sh.c ≤ a = omega (arith, q.at) in
      let g : a + vote_length sh.c ≤ length b = omega (arith, q.within) in
      let o = own_room in
      let x : List ℕ = le 1 1 ++ (le 4 n ++ le 8 s) in
      let lx : length x ≡ 13 = begun_long n s in
      let y : List ℕ = part b at used in
      let ly : length y ≡ used = length_part b at used (omega arith) in
      let lz : length (zero_bytes rest) ≡ rest = length-replicate {A = ℕ} rest 0 in
      let d : part b1 log used ≡ y = ap (λ (i : ℕ). part b1 i used) e ∙ ap (λ (t : List ℕ). part t at used) w1 ∙ part_splice_after b a x at used (omega arith) (omega arith) in
      let za : part b a (vote_length sh.c) ≡ zero_bytes (vote_length sh.c) = ap (λ (i : ℕ). part b i (vote_length sh.c)) ea ∙ z in
      let i : a + 13 + used ≡ a + (13 + used) = omega arith in
      let free : part b1 (a + 13 + used) rest ≡ zero_bytes rest
      = ap (λ (t : List ℕ). part t (a + 13 + used) rest) w1
      ∙ part_splice_before b a x (a + 13 + used) rest (omega arith) (omega arith)
      ∙ ap (λ (j : ℕ). part b j rest) i
      ∙ sym (part_part b a (vote_length sh.c) (13 + used) rest g (omega arith))
      ∙ ap (λ (t : List ℕ). part t (13 + used) rest) za
      ∙ part_zeros (vote_length sh.c) (13 + used) rest (omega arith) in
      let fr : part b1 (a + 13 + length y) (length (zero_bytes rest)) ≡ zero_bytes rest = rw (ly, lz) free in
      let tail : part b (at + used) rest ≡ zero_bytes rest = free_from 24 sh.c at count b (omega arith) sp count_here (24 * count) rest (omega arith) (omega arith) in
      let m : used + rest ≡ table_length sh.c = omega arith in
      let whole : y ++ zero_bytes rest ≡ part b at (table_length sh.c) = ap (λ (t : List ℕ). y ++ t) (sym tail) ∙ sym (part_add b at used rest) ∙ ap (part b at) m in
      let w : b2 ≡ splice b1 (a + 13) (part b at (table_length sh.c)) = w2 ∙ ap (splice b1 (a + 13)) d ∙ sym (splice_kept b1 (a + 13) y (zero_bytes rest) fr) ∙ ap (splice b1 (a + 13)) whole in
      moved b b2 _ _ a _ (vote_joined b b1 b2 _ a n s (omega arith) w1 w) ea (ap (λ (t : ℕ). le 1 1 ++ (le 4 t ++ (le 8 s ++ part b at (table_length sh.c)))) en ∙ ap (λ (t : ℕ). le 1 1 ++ (le 4 (num b 12 4) ++ (le 8 t ++ part b at (table_length sh.c)))) es)

-- ---- a reply

pub reply_kept : (b b1 b2 : List ℕ) (a x c : ℕ) (es : List Entry) → a + 1 ≤ length b → a ≡ x → b1 ≡ splice b a (le 1 1) → b2 ≡ splice b1 (a + 1) (table_bytes c es) → b2 ≡ splice b x (reply_bytes c (some es))
unfolding reply_bytes
reply_kept b b1 b2 a x c es h e w1 w2 = moved b b2 _ _ a x (splice_next b a 1 (le 1 1) (table_bytes c es) b1 b2 h (length_le 1 1) w1 w2) e refl
