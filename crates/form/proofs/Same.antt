-- Bytes compared part by part: sections in a row, a number, zeros, a flag and what it says is there, places of one size. Assumes nothing.
use Prim.Native.Nat.{ℕ, zero, suc, ◌+◌, ◌*◌, ◌%◌, ◌≤◌, ◌<◌}
use mathlib.Core.Path.{◌≡◌, refl, sym, ap, ◌∙◌}
use mathlib.Core.Bool.{Bool, true, false, ◌&&◌, and-true}
use mathlib.Core.Option.{Option, none, some}
use mathlib.Core.List.{List, [], ◌∷◌, ◌++◌, map, append-nil}
use native.Mathlib.Omega.{arith}
use native.Mathlib.Numerals.{add-one}
use native.Mathlib.Nat.{mul-le-mul}
use lib.ListN.{length, length-append, length-replicate}
use lib.Dec.{eqb}
use borrow.Author.Tests.{eq-eqb, ne_eqb}
use Rattle.octets.specs.Bytes.{le, part, num, zeros, flat, items}
use Rattle.octets.specs.Sections.{concat}
use Rattle.octets.proofs.Laws.{Bytes, length_le, length_part, part_add, part_none, le_num, num_lt, zeros_part, zeros_num}
use Rattle.octets.proofs.Sections.{part_whole}
use Rattle.octets.proofs.Codecs.{flat_append, row_long}
use Rattle.octets.proofs.Logic.{eqb_sym}
use Rattle.rules.specs.Choice.{pick, all_of, same}
use Rattle.rules.specs.Image.{zero_bytes}
use Rattle.rules.proofs.Tests.{same_self, same_append}

-- ---- sections in a row

-- each section with its counterpart
abbrev pub pairs : List (List ℕ) → List (List ℕ) → List Bool
pairs [] ys = []
pairs (x ∷ xs) [] = []
pairs (x ∷ xs) (y ∷ ys) = same x y ∷ pairs xs ys

pub same_concat : (xs ys : List (List ℕ)) → map length xs ≡ map length ys → same (concat xs) (concat ys) ≡ all_of (pairs xs ys)
unfolding concat all_of
same_concat [] [] l = same_self []
same_concat [] (y ∷ ys) l = absurd (let z : ◌≡◌ {A = ℕ} 0 1 = cc in omega arith)
same_concat (x ∷ xs) [] l = absurd (let z : ◌≡◌ {A = ℕ} 0 1 = cc in omega arith)
same_concat (x ∷ xs) (y ∷ ys) l =
    let h : length x ≡ length y = cc in
    let t : map length xs ≡ map length ys = cc in
    same_append x y (concat xs) (concat ys) h ∙ ap (λ (r : Bool). same x y && r) (same_concat xs ys t)

-- ---- a number, and zeros, at the front of what is compared with a part of b

pub same_zeros : (n : ℕ) (x : List ℕ) → length x ≡ n → same (zero_bytes n) x ≡ zeros x
unfolding same
same_zeros zero [] l = refl
same_zeros zero (b ∷ x) l = absurd (omega arith)
same_zeros (suc n) [] l = absurd (omega arith)
same_zeros (suc n) (b ∷ x) l = rw (eqb_sym 0 b) (ap (λ (r : Bool). eqb b 0 && r) (same_zeros n x (omega arith)))

module _ (b : List ℕ) (a k m : ℕ) (l : a + (k + m) ≤ length b) where
  -- the number that is read is always that which stands there
  pub number_first : (y : List ℕ) → Bytes b → same (le k (num b a k) ++ y) (part b a (k + m)) ≡ same y (part b (a + k) m)
  number_first y bs =
      let x : List ℕ = le k (num b a k) in
      let e : part b a (k + m) ≡ x ++ part b (a + k) m = part_add b a k m ∙ ap (λ (r : List ℕ). r ++ part b (a + k) m) (sym (le_num b a k bs (omega arith))) in
      ap (same (x ++ y)) e ∙ same_append x x y (part b (a + k) m) refl ∙ ap (λ (r : Bool). r && same y (part b (a + k) m)) (same_self x)

  pub zeros_first : (y : List ℕ) → same (zero_bytes k ++ y) (part b a (k + m)) ≡ (zeros (part b a k) && same y (part b (a + k) m))
  zeros_first y =
      let g : length (part b a k) ≡ k = length_part b a k (omega arith) in
      ap (same (zero_bytes k ++ y)) (part_add b a k m)
      ∙ same_append (zero_bytes k) (part b a k) y (part b (a + k) m) (length-replicate {A = ℕ} k 0 ∙ sym g)
      ∙ ap (λ (r : Bool). r && same y (part b (a + k) m)) (same_zeros k (part b a k) g)

-- ---- a flag, then what it says is there

one_byte : (v : ℕ) → v < 256 → same (le 1 1) (le 1 v) ≡ eqb v 1
unfolding le same
one_byte v h =
    let e : v % 256 ≡ v = omega arith in
    rw e (and-true (eqb 1 v) ∙ eqb_sym 1 v)

flag_first : (b : List ℕ) (a m : ℕ) (y : List ℕ) → Bytes b → a + (1 + m) ≤ length b → same (le 1 1 ++ y) (part b a (1 + m)) ≡ (eqb (num b a 1) 1 && same y (part b (a + 1) m))
flag_first b a m y bs l =
    let v : ℕ = num b a 1 in
    let e : part b a (1 + m) ≡ le 1 v ++ part b (a + 1) m = part_add b a 1 m ∙ ap (λ (r : List ℕ). r ++ part b (a + 1) m) (sym (le_num b a 1 bs (omega arith))) in
    ap (same (le 1 1 ++ y)) e
    ∙ same_append (le 1 1) (le 1 v) y (part b (a + 1) m) (length_le 1 1 ∙ sym (length_le 1 v))
    ∙ ap (λ (r : Bool). r && same y (part b (a + 1) m)) (one_byte v (num_lt b a 1 bs (omega arith)))

-- a place of k bytes that begins with a flag: zeros where it is unset, else m bytes of what is there
pub record Flagged (A : Type 0) (k m : ℕ) (put : Option A → List ℕ) (get : List ℕ → ℕ → Option A) (body : A → List ℕ) (inner : List ℕ → ℕ → A) : Type 0 where
  pub wide : k ≡ 1 + m
  pub unset : put none ≡ zero_bytes k
  pub is : (x : A) → put (some x) ≡ le 1 1 ++ body x
  pub read : (b : List ℕ) (a : ℕ) → get b a ≡ pick (eqb (num b a 1) 0) none (some (inner b a))
  pub long : (b : List ℕ) (a : ℕ) → length (body (inner b a)) ≡ m

module _ {A : Type 0} {k m : ℕ} {put : Option A → List ℕ} {get : List ℕ → ℕ → Option A} {body : A → List ℕ} {inner : List ℕ → ℕ → A} (c : Flagged A k m put get body inner) where
  pub flag_long : (b : List ℕ) (a : ℕ) → length (put (get b a)) ≡ k
  unfolding pick
  flag_long b a = ap (λ (x : Option A). length (put x)) (c.read b a) ∙ go (eqb (num b a 1) 0)
    where
      go : (t : Bool) → length (put (pick t none (some (inner b a)))) ≡ k
      go true = ap length c.unset ∙ length-replicate {A = ℕ} k 0
      go false = ap length (c.is (inner b a)) ∙ length-append (le 1 1) (body (inner b a)) ∙ omega (arith, length_le 1 1, c.long b a, c.wide)

  module _ (b : List ℕ) (a f : ℕ) (l : a + k ≤ length b) (e : f ≡ num b a 1) where
    pub flag_zero : f ≡ 0 → (z : Bool) → z ≡ zeros (part b (a + 1) m) → z ≡ same (put (get b a)) (part b a k)
    unfolding pick
    flag_zero q z h =
        let t : eqb (num b a 1) 0 ≡ true = eq-eqb (num b a 1) 0 (sym e ∙ q) in
        let g : put (get b a) ≡ zero_bytes k = ap put (c.read b a ∙ rw t) ∙ c.unset in
        sym (ap (λ (x : List ℕ). same x (part b a k)) g
        ∙ same_zeros k (part b a k) (length_part b a k l)
        ∙ ap (λ (n : ℕ). zeros (part b a n)) c.wide
        ∙ zeros_part b a 1 m
        ∙ ap (λ (r : Bool). r && zeros (part b (a + 1) m)) (zeros_num b a 1 ∙ t)
        ∙ sym h)

    flag_other : Bytes b → (f ≡ 0 → ⊥) → same (put (get b a)) (part b a k) ≡ (eqb (num b a 1) 1 && same (body (inner b a)) (part b (a + 1) m))
    unfolding pick
    flag_other bs n =
        let t : eqb (num b a 1) 0 ≡ false = ne_eqb (num b a 1) 0 (λ q. n (e ∙ q)) in
        let g : put (get b a) ≡ le 1 1 ++ body (inner b a) = ap put (c.read b a ∙ rw t) ∙ c.is (inner b a) in
        let w : k ≡ 1 + m = c.wide in
        ap (λ (x : List ℕ). same x (part b a k)) g
        ∙ ap (λ (j : ℕ). same (le 1 1 ++ body (inner b a)) (part b a j)) w
        ∙ flag_first b a m (body (inner b a)) bs (omega arith)

    pub flag_wrong : Bytes b → (f ≡ 0 → ⊥) → (f ≡ 1 → ⊥) → false ≡ same (put (get b a)) (part b a k)
    flag_wrong bs n q = sym (flag_other bs n ∙ ap (λ (r : Bool). r && same (body (inner b a)) (part b (a + 1) m)) (ne_eqb (num b a 1) 1 (λ h. q (e ∙ h))))

    -- what is behind the flag is right whatever it is
    pub flag_only : Bytes b → (f ≡ 0 → ⊥) → true ≡ same (body (inner b a)) (part b (a + 1) m) → eqb f 1 ≡ same (put (get b a)) (part b a k)
    flag_only bs n h =
        ap (λ (v : ℕ). eqb v 1) e ∙ sym (flag_other bs n ∙ ap (λ (r : Bool). eqb (num b a 1) 1 && r) (sym h) ∙ and-true (eqb (num b a 1) 1))

    pub flag_one : Bytes b → f ≡ 1 → (r : Bool) → r ≡ same (body (inner b a)) (part b (a + 1) m) → r ≡ same (put (get b a)) (part b a k)
    flag_one bs q r h = sym (flag_other bs (λ z. omega arith) ∙ ap (λ (t : Bool). t && same (body (inner b a)) (part b (a + 1) m)) (eq-eqb (num b a 1) 1 (sym e ∙ q)) ∙ sym h)

-- ---- places of one size in a row: all are right where the first are and the next is

module _ {A : Type 0} (put : A → List ℕ) (get : List ℕ → ℕ → A) (k : ℕ) (long : (b : List ℕ) (a : ℕ) → length (put (get b a)) ≡ k) (b : List ℕ) (o : ℕ) where
  pub row_none : true ≡ same (flat put (items (get b) k o 0)) (part b o (k * 0))
  unfolding items flat same
  row_none =
      let z : k * 0 ≡ 0 = omega arith in
      rw (z, part_none b o)

  pub row_next : (i a : ℕ) (f p : Bool) → a ≡ o + k * i → o + k * (i + 1) ≤ length b → f ≡ same (flat put (items (get b) k o i)) (part b o (k * i)) → p ≡ same (put (get b a)) (part b a k) → (f && p) ≡ same (flat put (items (get b) k o (i + 1))) (part b o (k * (i + 1)))
  unfolding items flat
  row_next i a f p h l hf hp =
      let x : A = get b (o + k * i) in
      let xs : List A = items (get b) k o i in
      let e : k * suc i ≡ k * i + k = omega arith in
      let g : flat put (xs ++ (x ∷ [])) ≡ flat put xs ++ put x = flat_append put xs (x ∷ []) ∙ ap (λ (r : List ℕ). flat put xs ++ r) (append-nil (put x)) in
      let w : part b o (k * suc i) ≡ part b o (k * i) ++ part b (o + k * i) k = ap (part b o) e ∙ part_add b o (k * i) k in
      let n : length (flat put xs) ≡ length (part b o (k * i)) = row_long put get k long b o i ∙ sym (length_part b o (k * i) (omega arith)) in
      let q : same (flat put (xs ++ (x ∷ []))) (part b o (k * suc i)) ≡ (same (flat put xs) (part b o (k * i)) && same (put x) (part b (o + k * i) k))
      = ap (λ (r : List ℕ). same r (part b o (k * suc i))) g ∙ ap (same (flat put xs ++ put x)) w ∙ same_append (flat put xs) (part b o (k * i)) (put x) (part b (o + k * i) k) n in
      rw (add-one i, hf, hp, h) (sym q)

  pub row_end : (i n : ℕ) (f : Bool) → i ≤ n → n ≤ i → f ≡ same (flat put (items (get b) k o i)) (part b o (k * i)) → f ≡ same (flat put (items (get b) k o n)) (part b o (k * n))
  row_end i n f h l e =
      let q : i ≡ n = omega arith in
      rw q at e

-- the first i of n places lie within them, and so does the next
first_within : (k i n : ℕ) → i ≤ n → k * i ≤ k * n
first_within k i n h =
    let r : k ≤ k = omega arith in
    mul-le-mul r h

pub next_within : (k i n : ℕ) → i < n → k * i + k ≤ k * n
next_within k i n h =
    let q : i + 1 ≤ n = omega arith in
    omega (arith, first_within k (i + 1) n q)

-- the row is all of b
pub row_whole : (b x : List ℕ) (n : ℕ) (f : Bool) → length b ≡ n → f ≡ same x (part b 0 n) → f ≡ same x b
row_whole b x n f l e = e ∙ ap (same x) (part_whole b n (omega arith))
