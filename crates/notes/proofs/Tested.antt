-- Bytes that are tested: whether they are the form of the notes in them, and each note in range. Assumes nothing.
use Prim.Native.Nat.{ℕ, zero, suc, ◌+◌, ◌-◌, ◌*◌, ◌%◌, ◌≤◌, ◌<◌, min}
use mathlib.Core.Path.{◌≡◌, refl, sym, ap, ap₂, ◌∙◌}
use mathlib.Core.Bool.{Bool, true, false, ◌&&◌, ◌||◌, and-true}
use mathlib.Core.List.{List, [], ◌∷◌, ◌++◌}
use native.Mathlib.Omega.{arith}
use native.Mathlib.Nat.{add_assoc, mul-le-mul_left}
use native.Mathlib.Numerals.{add-one}
use lib.ListN.{length, get_or, length-append}
use lib.Seq.{take_all}
use lib.Dec.{eqb, leb}
use borrow.Author.Tests.{eq-eqb}
use Rattle.octets.specs.Bytes.{le, num, part, zeros, flat, items}
use Rattle.octets.proofs.Laws.{Bytes, bytes_known, length_le, length_part, le_num, num_lt, part_add, zeros_part, zeros_num}
use Rattle.octets.proofs.Codecs.{All, length_items, row_long}
use Rattle.octets.proofs.Logic.{and_cross, and_turn, eqb_sym}
use Rattle.rules.specs.Choice.{all_of, every, any, is_some, passes, same}
use Rattle.rules.specs.Entry.{stamp_fits}
use Rattle.rules.specs.State.{Note, note_fits}
use Rattle.rules.specs.Image.{note_length, zero_bytes, point_bytes, note_bytes, notes_section, point_at, note_at}
use Rattle.rules.proofs.Tests.{same_self, same_true, all_items, same_append}
use Rattle.rules.proofs.Tables.{PointFits, NoteFits, flat_long, point_long}
use Rattle.rules.proofs.Choice.{by_test, every_more, any_more}
use Rattle.notes.specs.Notes.{sized, notes_at, Notes}
use Rattle.notes.proofs.Rows.{row_same, row_none, row_more}
use Rattle.notes.proofs.Notes.{hold, count_notes, inside}
use Rattle.notes.proofs.Points.{not_heard, was_heard, fold_stop}

-- ---- tests

same_zeros : (x : List ℕ) (n : ℕ) → length x ≡ n → same (zero_bytes n) x ≡ zeros x
unfolding same
same_zeros [] zero l = refl
same_zeros [] (suc n) l = absurd (omega arith)
same_zeros (b ∷ x) zero l = absurd (omega arith)
same_zeros (b ∷ x) (suc n) l = ap₂ ◌&&◌ (eqb_sym 0 b) (same_zeros x n (omega arith))

-- a number's bytes are those that it was read from
number_same : (b : List ℕ) (at k v : ℕ) → Bytes b → at + k ≤ length b → v ≡ num b at k → same (le k v) (part b at k) ≡ true
number_same b at k v bs l e = ap (λ (x : List ℕ). same x (part b at k)) (ap (le k) e ∙ le_num b at k bs l) ∙ same_self (part b at k)

-- ---- things in a row, each of them right

module _ {A : Type 0} (put : A → List ℕ) (get : List ℕ → ℕ → A) (k : ℕ) (long : (b : List ℕ) (a : ℕ) → length (put (get b a)) ≡ k) (p : A → Bool) (b : List ℕ) (o : ℕ) where
  -- the first n stand in their form and pass
  unfoldable pub good_row : ℕ → Bool
  good_row n = row_same put get k long b o n && every p (items (get b) k o n)

  pub good_none : true ≡ good_row 0
  unfolding good_row items every
  good_none = rw (← row_none put get k long b o)

  pub good_next : (n a : ℕ) (fine g : Bool) → o + k * (n + 1) ≤ length b → a ≡ o + k * n → fine ≡ good_row n → g ≡ (same (put (get b a)) (part b a k) && p (get b a)) → (fine && g) ≡ good_row (n + 1)
  unfolding good_row items
  good_next n a fine g h e q r =
      let x : A = get b (o + k * n) in
      let w : every p (items (get b) k o (n + 1)) ≡ (every p (items (get b) k o n) && p x) = rw (add-one n) (every_more p (items (get b) k o n) x) in
      ap₂ ◌&&◌ q (rw e at r)
      ∙ and_cross (row_same put get k long b o n) (every p (items (get b) k o n)) (same (put x) (part b (o + k * n) k)) (p x)
      ∙ sym (ap₂ ◌&&◌ (row_more put get k long b o n h) w)

  pub good_stop : (i n a : ℕ) (g : Bool) → i < n → o + k * n ≤ length b → a ≡ o + k * i → g ≡ (same (put (get b a)) (part b a k) && p (get b a)) → g ≡ false → false ≡ good_row n
  good_stop i n a g l h e r z =
      let q : ℕ → Bool = λ m. same (put (get b (o + k * m))) (part b (o + k * m) k) && p (get b (o + k * m)) in
      fold_stop good_row q n (λ m d. sym (good_next m _ _ _ (omega (arith, mul-le-mul_left {m = m + 1} {n = n} k (omega arith))) refl refl refl)) i l (rw e at (sym r ∙ z))

-- ---- a point

pub point_size : (b : List ℕ) (a : ℕ) → length (point_bytes (point_at b a)) ≡ 9
point_size b a = point_long (point_at b a)

module _ (b : List ℕ) (at f v : ℕ) (known : (i : ℕ) → get_or b i 0 < 256) (h : at + 9 ≤ length b) (e : f ≡ num b at 1) (d : v ≡ num b (at + 1) 8) where
  pub unheard_good : f ≡ 0 → eqb v 0 ≡ (same (point_bytes (point_at b at)) (part b at 9) && passes stamp_fits (point_at b at))
  unfolding point_bytes
  unheard_good z =
      let s : same (zero_bytes 9) (part b at 9) ≡ (eqb (num b at 1) 0 && eqb (num b (at + 1) 8) 0)
      = same_zeros (part b at 9) 9 (length_part b at 9 h) ∙ zeros_part b at 1 8 ∙ ap₂ ◌&&◌ (zeros_num b at 1) (zeros_num b (at + 1) 8) in
      sym (rw (← not_heard b at f e z) (ap (λ (r : Bool). r && true) (s ∙ ap₂ ◌&&◌ (eq-eqb (num b at 1) 0 (sym e ∙ z)) (ap (λ (n : ℕ). eqb n 0) (sym d))) ∙ and-true (eqb v 0)))

  flag_same : same (le 1 1) (part b at 1) ≡ eqb f 1
  unfolding le same
  flag_same =
      let bs = bytes_known b known in
      let l : num b at 1 < 256 = num_lt b at 1 bs (omega arith) in
      let m : f % 256 ≡ f = omega arith in
      ap (same (le 1 1)) (sym (le_num b at 1 bs (omega arith)) ∙ ap (le 1) (sym e)) ∙ rw m (and-true (eqb 1 f) ∙ eqb_sym 1 f)

  pub heard_good : (f ≡ 0 → ⊥) → (eqb f 1 && (leb 1 v && leb v 9223372036854775807)) ≡ (same (point_bytes (point_at b at)) (part b at 9) && passes stamp_fits (point_at b at))
  unfolding point_bytes
  heard_good n =
      let bs = bytes_known b known in
      let s : same (le 1 1 ++ le 8 v) (part b at 9) ≡ eqb f 1
      = ap (same (le 1 1 ++ le 8 v)) (part_add b at 1 8)
      ∙ same_append (le 1 1) (part b at 1) (le 8 v) (part b (at + 1) 8) (length_le 1 1 ∙ sym (length_part b at 1 (omega arith)))
      ∙ ap₂ ◌&&◌ flag_same (number_same b (at + 1) 8 v bs (omega arith) d)
      ∙ and-true (eqb f 1) in
      sym (rw (← was_heard b at f e v n d) (ap (λ (r : Bool). r && (leb 1 v && leb v 9223372036854775807)) s))

-- ---- a note

-- the first j points from o on are good
abbrev pub good_points : List ℕ → ℕ → ℕ → Bool
good_points b o j = good_row point_bytes point_at 9 point_size (passes stamp_fits) b o j

-- one of them was heard
abbrev pub heard_points : List ℕ → ℕ → ℕ → Bool
heard_points b o j = any is_some (items (point_at b) 9 o j)

pub heard_none : (b : List ℕ) (o : ℕ) → false ≡ heard_points b o 0
unfolding items any
heard_none b o = refl

pub heard_next : (b : List ℕ) (o j a : ℕ) (heard g : Bool) → a ≡ o + 9 * j → heard ≡ heard_points b o j → g ≡ is_some (point_at b a) → (heard || g) ≡ heard_points b o (j + 1)
unfolding items
heard_next b o j a heard g e q r = ap₂ ◌||◌ q (rw e at r) ∙ sym (rw (add-one j) (any_more is_some (items (point_at b) 9 o j) (point_at b (o + 9 * j))))

pub note_size : (s : ℕ) (b : List ℕ) (a : ℕ) → length (note_bytes (note_at s b a)) ≡ note_length s
unfolding note_bytes note_at
note_size s b a = simp (length-append, length_le, flat_long point_bytes 9 point_long, length_items) (omega arith)

-- its two numbers always have their form
note_same : (s : ℕ) (b : List ℕ) (a : ℕ) → Bytes b → a + note_length s ≤ length b → same (note_bytes (note_at s b a)) (part b a (note_length s)) ≡ row_same point_bytes point_at 9 point_size b (a + 6) s
unfolding note_bytes note_at row_same
note_same s b a bs h =
    let F : List ℕ = flat point_bytes (items (point_at b) 9 (a + 6) s) in
    let R : List ℕ = part b (a + 6) (9 * s) in
    let e : note_length s ≡ 4 + (2 + 9 * s) = omega arith in
    let g : a + 4 + 2 ≡ a + 6 = add_assoc a 4 2 in
    let w : part b a (note_length s) ≡ part b a 4 ++ (part b (a + 4) 2 ++ R)
    = ap (part b a) e ∙ part_add b a 4 (2 + 9 * s) ∙ ap (λ (r : List ℕ). part b a 4 ++ r) (part_add b (a + 4) 2 (9 * s) ∙ ap (λ (n : ℕ). part b (a + 4) 2 ++ part b n (9 * s)) g) in
    ap (same (le 4 (num b a 4) ++ (le 2 (num b (a + 4) 2) ++ F))) w
    ∙ same_append (le 4 (num b a 4)) (part b a 4) (le 2 (num b (a + 4) 2) ++ F) (part b (a + 4) 2 ++ R) (length_le 4 (num b a 4) ∙ sym (length_part b a 4 (omega arith)))
    ∙ ap₂ ◌&&◌ (number_same b a 4 (num b a 4) bs (omega arith) refl)
    (same_append (le 2 (num b (a + 4) 2)) (part b (a + 4) 2) F R (length_le 2 (num b (a + 4) 2) ∙ sym (length_part b (a + 4) 2 (omega arith)))
    ∙ ap (λ (r : Bool). r && same F R) (number_same b (a + 4) 2 (num b (a + 4) 2) bs (omega arith) refl))

in_order : (f e r k h : Bool) → ((f && e) && (r && (k && h))) ≡ (f && (r && (k && (h && (e && true)))))
in_order false e r k h = refl
in_order true true false k h = refl
in_order true true true false h = refl
in_order true true true true false = refl
in_order true true true true true = refl
in_order true false false k h = refl
in_order true false true false h = refl
in_order true false true true false = refl
in_order true false true true true = refl

pub note_good : (s : ℕ) (b : List ℕ) (a j r k : ℕ) (fine heard : Bool) → ((i : ℕ) → get_or b i 0 < 256) → a + note_length s ≤ length b → j ≤ s → s ≤ j → r ≡ num b a 4 → k ≡ num b (a + 4) 2
    → fine ≡ good_points b (a + 6) j → heard ≡ heard_points b (a + 6) j
    → (fine && (leb 1 r && (leb k 65534 && heard))) ≡ (same (note_bytes (note_at s b a)) (part b a (note_length s)) && note_fits (note_at s b a))
unfolding note_fits note_at all_of good_row
note_good s b a j r k fine heard known h l g er ek q w =
    let m : j ≡ s = omega arith in
    rw (q, w, er, ek, m)
    (in_order (row_same point_bytes point_at 9 point_size b (a + 6) s) (every (passes stamp_fits) (items (point_at b) 9 (a + 6) s)) (leb 1 (num b a 4)) (leb (num b (a + 4) 2) 65534) (heard_points b (a + 6) s)
    ∙ ap (λ (x : Bool). x && note_fits (note_at s b a)) (sym (note_same s b a (bytes_known b known) h)))

-- ---- the notes

-- the first i notes are good
abbrev pub good_notes : ℕ → List ℕ → ℕ → Bool
good_notes s t i = good_row note_bytes (note_at s) (note_length s) (note_size s) note_fits t 4 i

not_same : (x y : List ℕ) → (x ≡ y → ⊥) → same x y ≡ false
not_same x y n = go (same x y) refl
  where
    go : (r : Bool) → same x y ≡ r → r ≡ false
    go true e = absurd (n (same_true x y e))
    go false e = refl

module _ (c s : ℕ) (t : List ℕ) (known : (i : ℕ) → get_or t i 0 < 256) (lt : length t ≡ 4 + note_length s * c) (hc : c ≤ 4096) where
  read_length : length (notes_at c s t) ≡ min (num t 0 4) c
  unfolding notes_at
  read_length = length_items (note_at s t) (note_length s) 4 (min (num t 0 4) c)

  pub good_over : (n : ℕ) → n ≡ num t 0 4 → c < n → false ≡ (same (notes_section (sized c s) (notes_at c s t)) t && every note_fits (notes_at c s t))
  good_over n e l =
      let k = read_length in
      let q : same (notes_section (sized c s) (notes_at c s t)) t ≡ false
      = not_same (notes_section (sized c s) (notes_at c s t)) t (λ q. omega (arith, ap (λ (x : List ℕ). num x 0 4) q, count_notes c s (notes_at c s t) (omega arith))) in
      rw q

  -- the count is right, so the notes and the free places decide
  pub good_rest : (n i at end : ℕ) (fine z : Bool) → n ≡ num t 0 4 → n ≤ c → i ≤ n → n ≤ i → at ≡ 4 + note_length s * n → end ≡ 4 + note_length s * c → fine ≡ good_notes s t i → z ≡ zeros (part t at (end - at))
      → (fine && z) ≡ (same (notes_section (sized c s) (notes_at c s t)) t && every note_fits (notes_at c s t))
  unfolding notes_section notes_at good_row row_same part
  good_rest n i at end fine z e l il ir ea ee q w =
      let bs = bytes_known t known in
      let W : ℕ = note_length s in
      let m : min (num t 0 4) c ≡ n = omega arith in
      let j : i ≡ n = omega arith in
      let xs : List Note = items (note_at s t) W 4 n in
      let lx : length xs ≡ n = length_items (note_at s t) W 4 n in
      let b : c ≡ n + (c - n) = omega arith in
      let v : W * c ≡ W * n + W * (c - n) = omega (arith, ap (λ (r : ℕ). W * r) b) in
      let d : end - at ≡ W * (c - n) = omega arith in
      let F : List ℕ = flat note_bytes xs in
      let O : List ℕ = zero_bytes (W * (c - n)) in
      let Z : List ℕ = part t (4 + W * n) (W * (c - n)) in
      let lz : length Z ≡ W * (c - n) = length_part t (4 + W * n) (W * (c - n)) (omega arith) in
      let whole : t ≡ part t 0 (4 + (W * n + W * (c - n))) = sym (take_all (4 + (W * n + W * (c - n))) t (omega arith)) in
      let cuts : t ≡ part t 0 4 ++ (part t 4 (W * n) ++ Z) = whole ∙ part_add t 0 4 (W * n + W * (c - n)) ∙ ap (λ (r : List ℕ). part t 0 4 ++ r) (part_add t 4 (W * n) (W * (c - n))) in
      let f : List ℕ = le 4 n ++ (F ++ O) in
      let p : same f t ≡ (same F (part t 4 (W * n)) && zeros Z)
      = ap (same f) cuts
      ∙ same_append (le 4 n) (part t 0 4) (F ++ O) (part t 4 (W * n) ++ Z) (length_le 4 n ∙ sym (length_part t 0 4 (omega arith)))
      ∙ ap₂ ◌&&◌ (number_same t 0 4 n bs (omega arith) e)
      (same_append F (part t 4 (W * n)) O Z (row_long note_bytes (note_at s) W (note_size s) t 4 n ∙ sym (length_part t 4 (W * n) (omega arith)))
      ∙ ap (λ (r : Bool). same F (part t 4 (W * n)) && r) (same_zeros Z (W * (c - n)) lz)) in
      let y : z ≡ zeros Z = w ∙ ap₂ (λ (a k : ℕ). zeros (part t a k)) ea d in
      rw m (rw lx (rw p (ap₂ ◌&&◌ (rw j at q) y ∙ and_turn (same F (part t 4 (W * n))) (every note_fits xs) (zeros Z))))

  point_fits : (a : ℕ) → a + 9 ≤ length t → PointFits (point_at t a)
  unfolding point_at
  point_fits a h = by_test PointFits (eqb (num t a 1) 0) (λ _. tt) (λ _. num_lt t (a + 1) 8 (bytes_known t known) (omega arith))

  note_fits_lem : (a : ℕ) → a + note_length s ≤ length t → NoteFits s (note_at s t a)
  unfolding note_at
  note_fits_lem a h =
      let bs = bytes_known t known in
      record {
        request = num_lt t a 4 bs (omega arith);
        coordinator = num_lt t (a + 4) 2 bs (omega arith);
        places = length_items (point_at t) 9 (a + 6) s;
        each = all_items PointFits (point_at t) 9 (a + 6) s (λ j l. point_fits (a + 6 + 9 * j) (omega arith));
      }

  -- good bytes hold notes
  pub good_notes_lem : s ≤ 8 → same (notes_section (sized c s) (notes_at c s t)) t ≡ true → Notes c s t
  unfolding notes_at
  good_notes_lem g e =
      let k = read_length in
      let n : ℕ = min (num t 0 4) c in
      let f : All (NoteFits s) (items (note_at s t) (note_length s) 4 n)
      = all_items (NoteFits s) (note_at s t) (note_length s) 4 n (λ i l. note_fits_lem (4 + note_length s * i) (omega (arith, inside s i c (omega arith)))) in
      hold c s (notes_at c s t) t (sym (same_true (notes_section (sized c s) (notes_at c s t)) t e)) (omega arith) hc g f
