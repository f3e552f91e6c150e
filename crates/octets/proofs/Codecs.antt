-- A thing of a fixed number of bytes, read back from them, alone and in a row. Assumes nothing.
use Prim.Native.Nat.{ℕ, zero, suc, ◌+◌, ◌*◌, ◌^◌, ◌≤◌, ◌<◌}
use mathlib.Core.Path.{◌≡◌, refl, sym, ap, ap₂, ◌∙◌}
use mathlib.Core.List.{List, [], ◌∷◌, ◌++◌, append_assoc, append-nil}
use native.Mathlib.Omega.{arith}
use native.Mathlib.Nat.{not-suc-le-zero, le_of_suc-le-suc}
use lib.ListN.{length, drop, get_or, length-append, take-append-drop}
use lib.Seq.{drop-drop, drop_at, take_at}
use Rattle.octets.specs.Bytes.{le, part, num, flat, items}
use Rattle.octets.proofs.Laws.{Bytes, length_le, unle_le, le_num}

abbrev pub All : {A : Type 0} → (A → Type 0) → List A → Type 0
All P [] = Unit {0}
All P (x ∷ xs) = P x × All P xs

pub record Codec (A : Type 0) (k : ℕ) (put : A → List ℕ) (get : List ℕ → ℕ → A) (Fits : A → Type 0) : Type 0 where
  pub long : (a : A) → Fits a → length (put a) ≡ k
  pub back : (b : List ℕ) (i : ℕ) (a : A) (q : List ℕ) → Fits a → drop i b ≡ put a ++ q → get b i ≡ a

-- ---- items, from the front
pub items_cons : {A : Type 0} (f : ℕ → A) (k o n : ℕ) → items f k o (suc n) ≡ f o ∷ items f k (o + k) n
unfolding items
items_cons f k o zero = ap (λ (j : ℕ). f j ∷ []) (omega arith)
items_cons f k o (suc n) =
    let e : o + k * suc n ≡ o + k + k * n = omega arith in
    rw (items_cons f k o n, e)

pub length_items : {A : Type 0} (f : ℕ → A) (k o n : ℕ) → length (items f k o n) ≡ n
unfolding items
length_items f k o zero = refl
length_items f k o (suc n) = rw items_cons (ap suc (length_items f k (o + k) n))

pub get_or_items : {A : Type 0} (f : ℕ → A) (k o n i : ℕ) (d : A) → i < n → get_or (items f k o n) i d ≡ f (o + k * i)
get_or_items f k o zero i d h = absurd (not-suc-le-zero h)
get_or_items f k o (suc n) zero d h = rw items_cons (ap f (omega arith))
get_or_items f k o (suc n) (suc i) d h =
    let e : o + k + k * i ≡ o + k * suc i = omega arith in
    rw items_cons (get_or_items f k (o + k) n i d (le_of_suc-le-suc h) ∙ ap f e)

-- two functions that agree place by place give the same, from wherever each begins
pub items_shift : {A : Type 0} (f g : ℕ → A) (k o p n : ℕ) → ((i : ℕ) → i < n → f (o + k * i) ≡ g (p + k * i)) → items f k o n ≡ items g k p n
unfolding items
items_shift f g k o p zero h = refl
items_shift f g k o p (suc n) h = ap₂ (λ (xs : List _) x. xs ++ (x ∷ [])) (items_shift f g k o p n (λ i l. h i (omega arith))) (h n (omega arith))

pub items_ext : {A : Type 0} (f g : ℕ → A) (k o n : ℕ) → ((i : ℕ) → i < n → f (o + k * i) ≡ g (o + k * i)) → items f k o n ≡ items g k o n
items_ext f g k o n h = items_shift f g k o o n h

pub flat_append : {A B : Type 0} (f : A → List B) (xs ys : List A) → flat f (xs ++ ys) ≡ flat f xs ++ flat f ys
unfolding flat
flat_append f [] ys = refl
flat_append f (x ∷ xs) ys = rw (flat_append f xs ys) (sym (append_assoc (f x) (flat f xs) (flat f ys)))

-- places of one size in a row
pub row_long : {A : Type 0} (put : A → List ℕ) (get : List ℕ → ℕ → A) (k : ℕ) → ((b : List ℕ) (a : ℕ) → length (put (get b a)) ≡ k) → (b : List ℕ) (o n : ℕ) → length (flat put (items (get b) k o n)) ≡ k * n
unfolding items flat
row_long put get k long b o zero = omega arith
row_long {A} put get k long b o (suc n) =
    let x : A = get b (o + k * n) in
    ap length (flat_append put (items (get b) k o n) (x ∷ []))
    ∙ length-append (flat put (items (get b) k o n)) (put x ++ [])
    ∙ omega (arith, row_long put get k long b o n, ap length (append-nil (put x)), long b (o + k * n))

module _ {A : Type 0} {k : ℕ} {put : A → List ℕ} {get : List ℕ → ℕ → A} {Fits : A → Type 0} (c : Codec A k put get Fits) where
  -- what stands after it
  pub next : (b : List ℕ) (i : ℕ) (a : A) (q : List ℕ) → Fits a → drop i b ≡ put a ++ q → drop (i + k) b ≡ q
  next b i a q f e = sym (drop-drop k i b) ∙ (ap (drop k) e ∙ drop_at (put a) q k (c.long a f))

  -- ---- many of a kind
  pub back_all : (b : List ℕ) (o n : ℕ) (xs : List A) (q : List ℕ) → All Fits xs → n ≡ length xs → drop o b ≡ flat put xs ++ q → items (get b) k o n ≡ xs
  unfolding items flat
  back_all b o n [] q f l e = rw l
  back_all b o n (x ∷ xs) q f l e =
      let e' : drop o b ≡ put x ++ (flat put xs ++ q) = e ∙ append_assoc (put x) (flat put xs) q in
      rw (l, items_cons (get b) k o (length xs)) (ap₂ ◌∷◌ (c.back b o x (flat put xs ++ q) f.0 e') (back_all b (o + k) (length xs) xs q f.1 refl (next b o x (flat put xs ++ q) f.0 e')))

  pub long_all : (xs : List A) → All Fits xs → length (flat put xs) ≡ k * length xs
  unfolding flat
  long_all [] f = omega arith
  long_all (x ∷ xs) f = length-append (put x) (flat put xs) ∙ omega (arith, c.long x f.0, long_all xs f.1)

  pub next_all : (b : List ℕ) (o : ℕ) (xs : List A) (q : List ℕ) → All Fits xs → drop o b ≡ flat put xs ++ q → drop (o + k * length xs) b ≡ q
  next_all b o xs q f e = sym (drop-drop (k * length xs) o b) ∙ (ap (drop (k * length xs)) e ∙ drop_at (flat put xs) q (k * length xs) (long_all xs f))

  -- the law as asked: the row stands after `pre`
  pub items_flat : (pre post : List ℕ) (xs : List A) → All Fits xs → items (get (pre ++ (flat put xs ++ post))) k (length pre) (length xs) ≡ xs
  items_flat pre post xs f = back_all (pre ++ (flat put xs ++ post)) (length pre) (length xs) xs post f refl (drop_at pre (flat put xs ++ post) (length pre) refl)

-- ---- a number of k bytes
pub back_number : (k : ℕ) (b : List ℕ) (i v : ℕ) (q : List ℕ) → v < 256 ^ k → drop i b ≡ le k v ++ q → num b i k ≡ v
unfolding num part
back_number k b i v q h e = rw (e, take_at (le k v) q k (length_le k v)) (unle_le k v h)

pub number : (k : ℕ) → Codec ℕ k (le k) (λ b i. num b i k) (λ v. v < 256 ^ k)
number k = record { long = λ v h. length_le k v; back = back_number k }

-- ---- the other way: only its bytes are read as it
pub record Exact (A : Type 0) (k : ℕ) (put : A → List ℕ) (get : List ℕ → ℕ → A) : Type 0 where
  pub peel : (b : List ℕ) (i : ℕ) → Bytes b → i + k ≤ length b → put (get b i) ++ drop (i + k) b ≡ drop i b

module _ {A : Type 0} {k : ℕ} {put : A → List ℕ} {get : List ℕ → ℕ → A} (c : Exact A k put get) where
  pub peel_all : (b : List ℕ) (o n : ℕ) → Bytes b → o + k * n ≤ length b → flat put (items (get b) k o n) ++ drop (o + k * n) b ≡ drop o b
  unfolding flat items
  peel_all b o zero bs l =
      let h : o + k * 0 ≡ o = omega arith in
      rw h
  peel_all b o (suc n) bs l =
      let h : o + k * suc n ≡ o + k + k * n = omega arith in
      rw (items_cons (get b) k o n, h) (append_assoc (put (get b o)) (flat put (items (get b) k (o + k) n)) (drop (o + k + k * n) b) ∙ (ap (λ (z : List ℕ). put (get b o) ++ z) (peel_all b (o + k) n bs (omega arith)) ∙ c.peel b o bs (omega arith)))

pub peel_number : (k : ℕ) (b : List ℕ) (i : ℕ) → Bytes b → i + k ≤ length b → le k (num b i k) ++ drop (i + k) b ≡ drop i b
unfolding part
peel_number k b i bs l = ap₂ ◌++◌ (le_num b i k bs l) (sym (drop-drop k i b)) ∙ take-append-drop k (drop i b)

pub exact_number : (k : ℕ) → Exact ℕ k (le k) (λ b i. num b i k)
exact_number k = record { peel = peel_number k }
