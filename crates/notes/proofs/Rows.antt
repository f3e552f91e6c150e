-- Things of one length in a row, one of them written over or taken out; two lists compared part by part. Assumes nothing.
use Prim.Native.Nat.{ℕ, zero, suc, ◌+◌, ◌-◌, ◌*◌, ◌≤◌, ◌<◌}
use mathlib.Core.Path.{◌≡◌, sym, ap, ◌∙◌}
use mathlib.Core.Bool.{Bool, true, ◌&&◌}
use mathlib.Core.List.{List, [], ◌∷◌, ◌++◌, append_assoc, append-nil}
use native.Mathlib.Omega.{arith}
use native.Mathlib.Numerals.{add-one}
use lib.ListN.{length, get_or, take, drop, set, replicate, length-append, length-replicate, length-drop}
use lib.Seq.{length-take-le, split_at, set_split}
use Rattle.octets.specs.Bytes.{part, splice, flat, items}
use Rattle.octets.proofs.Laws.{length_part, part_at, part_add, part_none, splice_at, splice_back, splice_next}
use Rattle.octets.proofs.Codecs.{All, Codec, long_all, flat_append, row_long}
use Rattle.rules.specs.Choice.{same}
use Rattle.rules.proofs.Tests.{all_at, same_append}
use Rattle.rules.proofs.Choice.{all_take, all_drop}

-- ---- what is true of each element, of parts of a list

module _ {A : Type 0} (P : A → Type 0) where
  pub all_set : (xs : List A) (i : ℕ) (y : A) → All P xs → P y → All P (set xs i y)
  all_set [] i y p q = tt
  all_set (x ∷ xs) zero y p q = (q, p.1)
  all_set (x ∷ xs) (suc i) y p q = (p.0, all_set xs i y p.1 q)

  pub all_replicate : (n : ℕ) (x : A) → P x → All P (replicate n x)
  all_replicate zero x p = tt
  all_replicate (suc n) x p = (p, all_replicate n x p)

-- ---- one of a row

-- the block after it that moved down, and the zeros, are one splice
pub shifted_out : (b : List ℕ) (at w n : ℕ) (m r : List ℕ) → at + w + n ≤ length b → m ≡ splice b at (part b (at + w) n) → r ≡ splice m (at + n) (replicate w 0) → r ≡ splice b at (part b (at + w) n ++ replicate w 0)
shifted_out b at w n m r h hm hr = splice_next b at n (part b (at + w) n) (replicate w 0) m r (omega arith) (length_part b (at + w) n (omega arith)) hm hr

module _ {A : Type 0} {k : ℕ} {put : A → List ℕ} {get : List ℕ → ℕ → A} {Fits : A → Type 0} (c : Codec A k put get Fits) (p : List ℕ) (xs : List A) (d : A) (q : List ℕ) (i : ℕ) (f : All Fits xs) (h : i < length xs) where
  front : length (p ++ flat put (take i xs)) ≡ length p + k * i
  front =
      let l : length (take i xs) ≡ i = length-take-le i xs (omega arith) in
      length-append p (flat put (take i xs)) ∙ ap (λ (n : ℕ). length p + n) (long_all c (take i xs) (all_take Fits i xs f) ∙ ap (λ (n : ℕ). k * n) l)

  -- the row as three: what stands before it, it, and what stands after it
  three : p ++ (flat put xs ++ q) ≡ (p ++ flat put (take i xs)) ++ (put (get_or xs i d) ++ (flat put (drop (i + 1) xs) ++ q))
  unfolding flat
  three =
      let e : xs ≡ take i xs ++ (get_or xs i d ∷ drop (i + 1) xs) = rw (add-one i) (split_at xs i d h) in
      ap (λ (r : List A). p ++ (flat put r ++ q)) e ∙ rw (flat_append put (take i xs) (get_or xs i d ∷ drop (i + 1) xs)) (simp append_assoc)

  three_set : (y : A) → p ++ (flat put (set xs i y) ++ q) ≡ (p ++ flat put (take i xs)) ++ (put y ++ (flat put (drop (i + 1) xs) ++ q))
  unfolding flat
  three_set y =
      let e : set xs i y ≡ take i xs ++ (y ∷ drop (i + 1) xs) = rw (add-one i) (set_split xs i y h) in
      ap (λ (r : List A). p ++ (flat put r ++ q)) e ∙ rw (flat_append put (take i xs) (y ∷ drop (i + 1) xs)) (simp append_assoc)

  -- z written at o within it makes it y
  pub row_write : (at o : ℕ) (z : List ℕ) (y : A) → at ≡ length p + k * i + o → ((r : List ℕ) → splice (put (get_or xs i d) ++ r) o z ≡ put y ++ r) → splice (p ++ (flat put xs ++ q)) at z ≡ p ++ (flat put (set xs i y) ++ q)
  row_write at o z y e w =
      let P : List ℕ = p ++ flat put (take i xs) in
      let R : List ℕ = flat put (drop (i + 1) xs) ++ q in
      let x : List ℕ = put (get_or xs i d) in
      let a : at ≡ length P + o = e ∙ ap (λ (n : ℕ). n + o) (sym front) in
      ap (λ (r : List ℕ). splice r at z) three
      ∙ ap (λ (n : ℕ). splice (P ++ (x ++ R)) n z) a
      ∙ splice_back P (x ++ R) o z
      ∙ ap (λ (r : List ℕ). P ++ r) (w R)
      ∙ sym (three_set y)

  -- it is taken out: the m bytes after it move down
  pub row_remove : (at m : ℕ) → at ≡ length p + k * i → m ≡ k * (length xs - (i + 1))
      → splice (p ++ (flat put xs ++ q)) at (part (p ++ (flat put xs ++ q)) (at + k) m ++ replicate k 0) ≡ p ++ (flat put (take i xs ++ drop (i + 1) xs) ++ (replicate k 0 ++ q))
  row_remove at m e n =
      let l : List ℕ = p ++ (flat put xs ++ q) in
      let P : List ℕ = p ++ flat put (take i xs) in
      let x : List ℕ = put (get_or xs i d) in
      let B : List ℕ = flat put (drop (i + 1) xs) in
      let O : List ℕ = replicate k 0 in
      let hx : length x ≡ k = c.long (get_or xs i d) (all_at Fits d xs f i h) in
      let hO : length O ≡ k = length-replicate {A = ℕ} k 0 in
      let hP : length P ≡ at = front ∙ sym e in
      let hB : length B ≡ m = long_all c (drop (i + 1) xs) (all_drop Fits (i + 1) xs f) ∙ ap (λ (j : ℕ). k * j) (length-drop (i + 1) xs) ∙ sym n in
      let s : l ≡ (P ++ x) ++ (B ++ q) = three ∙ sym (append_assoc P x (B ++ q)) in
      let hq : length (P ++ x) ≡ at + k = length-append P x ∙ omega arith in
      let u : part l (at + k) m ≡ B = ap (λ (r : List ℕ). part r (at + k) m) s ∙ part_at (P ++ x) B q (at + k) m hq hB in
      let s2 : l ≡ P ++ ((x ++ B) ++ q) = three ∙ ap (λ (r : List ℕ). P ++ r) (sym (append_assoc x B q)) in
      let g : length (x ++ B) ≡ length (B ++ O) = length-append x B ∙ sym (length-append B O ∙ omega arith) in
      ap (λ (r : List ℕ). splice l at (r ++ O)) u
      ∙ ap (λ (r : List ℕ). splice r at (B ++ O)) s2
      ∙ splice_at P (x ++ B) q (B ++ O) at hP g
      ∙ sym (rw (flat_append put (take i xs) (drop (i + 1) xs)) (simp append_assoc))

-- ---- a row compared with the bytes that it was read from

module _ {A : Type 0} (put : A → List ℕ) (get : List ℕ → ℕ → A) (k : ℕ) (long : (b : List ℕ) (a : ℕ) → length (put (get b a)) ≡ k) (b : List ℕ) (o : ℕ) where
  -- the bytes of the first n that stand in a row are those that stand there
  unfoldable pub row_same : ℕ → Bool
  row_same n = same (flat put (items (get b) k o n)) (part b o (k * n))

  pub row_none : true ≡ row_same 0
  unfolding row_same items flat same
  row_none =
      let z : k * 0 ≡ 0 = omega arith in
      rw (z, part_none b o)

  pub row_more : (n : ℕ) → o + k * (n + 1) ≤ length b → row_same (n + 1) ≡ (row_same n && same (put (get b (o + k * n))) (part b (o + k * n) k))
  unfolding row_same items flat
  row_more n h =
      let x : A = get b (o + k * n) in
      let xs : List A = items (get b) k o n in
      let e : k * suc n ≡ k * n + k = omega arith in
      let g : flat put (xs ++ (x ∷ [])) ≡ flat put xs ++ put x = flat_append put xs (x ∷ []) ∙ ap (λ (r : List ℕ). flat put xs ++ r) (append-nil (put x)) in
      let w : part b o (k * suc n) ≡ part b o (k * n) ++ part b (o + k * n) k = ap (part b o) e ∙ part_add b o (k * n) k in
      let l : length (flat put xs) ≡ length (part b o (k * n)) = row_long put get k long b o n ∙ sym (length_part b o (k * n) (omega arith)) in
      rw (add-one n) (ap (λ (r : List ℕ). same r (part b o (k * suc n))) g ∙ ap (same (flat put xs ++ put x)) w ∙ same_append (flat put xs) (part b o (k * n)) (put x) (part b (o + k * n) k) l)
