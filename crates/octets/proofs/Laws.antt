-- Laws of `le`, `unle`, `part`, `num`, `splice` and `zeros`. Assumes nothing.
use Prim.Native.Nat.{ℕ, zero, suc, ◌+◌, ◌-◌, ◌*◌, ◌/◌, ◌%◌, ◌^◌, ◌≤◌, ◌<◌}
use mathlib.Core.Path.{◌≡◌, refl, sym, ap, ap₂, ◌∙◌}
use mathlib.Core.Bool.{Bool, true, false, ◌&&◌, and_assoc, true≢false}
use borrow.Author.Tests.{ne_eqb, eq-eqb, eqb-true, eqb-false}
use native.Mathlib.Numerals.{add-one}
use native.Mathlib.Decide.{dec_le}
use mathlib.Core.List.{List, [], ◌∷◌, ◌++◌, append_assoc}
use native.Mathlib.Nat.{add-zero, zero-add, mul-zero, zero-mul, suc-add, add_assoc, pow-suc, mul_comm, mul_assoc, div-div-eq-div-mul, one-le-pow, mod-lt, div-lt_iff_lt-mul}
use native.Mathlib.Omega.{arith}
use lib.ListN.{length, take, drop, get_or, set, replicate, length-append, length-drop, drop_of_length-le, take-append-drop}
use lib.Seq.{take-nil, drop-cons, set_split, length-take-le, take-append-le, drop-append-le, take_at, drop_at, drop-drop, take-add, take-append-add, drop-append-add}
use lib.Arith.{mod-mul}
use lib.Dec.{lit<, eqb}
use Rattle.octets.specs.Bytes.{le, unle, part, num, splice, zeros}

-- ---- lengths

pub length_le : (k v : ℕ) → length (le k v) ≡ k
unfolding le
length_le zero v = refl
length_le (suc k) v = ap suc (length_le k (v / 256))

pub length_part : (b : List ℕ) (at n : ℕ) → at + n ≤ length b → length (part b at n) ≡ n
unfolding part
length_part b at n h =
    let e : n ≤ length (drop at b) = simp length-drop (omega arith) in length-take-le n (drop at b) e

pub length_splice : (b : List ℕ) (at : ℕ) (x : List ℕ) → at + length x ≤ length b → length (splice b at x) ≡ length b
unfolding splice
length_splice b at x h =
    let e : at ≤ length b = omega arith in
    simp (length-append, length-drop, length-take-le at b e) (omega arith)

-- ---- a number of k bytes, there and back

pub unle_le : (k v : ℕ) → v < 256 ^ k → unle (le k v) ≡ v
unfolding le unle
unle_le zero v h = omega arith
unle_le (suc k) v h =
    let pos : 0 < 256 = omega arith in
    let d : v / 256 < 256 ^ k = (div-lt_iff_lt-mul pos).1 (rw pow-suc at h) in
    omega (arith, unle_le k (v / 256) d)

-- every element is a byte
abbrev pub Bytes : List ℕ → Type 0
Bytes [] = Unit {0}
Bytes (b ∷ bs) = (b < 256) × Bytes bs

pub le_unle : (x : List ℕ) → Bytes x → le (length x) (unle x) ≡ x
unfolding le unle
le_unle [] h = refl
le_unle (b ∷ bs) h =
    let r : b < 256 = h.0 in
    let m : (b + 256 * unle bs) % 256 ≡ b = omega arith in
    let d : (b + 256 * unle bs) / 256 ≡ unle bs = omega arith in
    rw (m, d) (ap (λ (r : List ℕ). b ∷ r) (le_unle bs h.1))

pub unle_lt : (x : List ℕ) → Bytes x → unle x < 256 ^ length x
unfolding unle
unle_lt [] h = omega arith
unle_lt (b ∷ bs) h =
    let r : b < 256 = h.0 in
    rw pow-suc (omega (arith, unle_lt bs h.1))

-- ---- the lower j bytes, then the upper k

pow_swap : (j : ℕ) → 256 ^ suc j ≡ 256 * 256 ^ j
pow_swap j = pow-suc 256 j ∙ mul_comm (256 ^ j) 256

pub le_add : (j k v : ℕ) → le (j + k) v ≡ le j v ++ le k (v / 256 ^ j)
unfolding le
le_add zero k v =
    let e : v / 1 ≡ v = omega arith in
    rw (zero-add, e)
le_add (suc j) k v =
    rw (suc-add, pow_swap j, ← div-div-eq-div-mul v 256 (256 ^ j)) (ap (λ (r : List ℕ). v % 256 ∷ r) (le_add j k (v / 256)))

pub le_mod : (j v : ℕ) → le j (v % 256 ^ j) ≡ le j v
unfolding le
le_mod zero v = refl
le_mod (suc j) v =
    let q : ℕ = v / 256 % 256 ^ j in
    let e : v % 256 ^ suc j ≡ q * 256 + v % 256 = rw pow-suc (mod-mul v (one-le-pow j 256 (lit< tt)) (lit< tt)) in
    let m : v % 256 ^ suc j % 256 ≡ v % 256 = omega arith in
    let d : v % 256 ^ suc j / 256 ≡ v / 256 % 256 ^ j = omega arith in
    rw (m, d) (ap (λ (r : List ℕ). v % 256 ∷ r) (le_mod j (v / 256)))

pub unle_append : (x y : List ℕ) → unle (x ++ y) ≡ unle x + 256 ^ length x * unle y
unfolding unle
unle_append [] y = omega arith
unle_append (b ∷ x) y =
    let e : 256 ^ suc (length x) * unle y ≡ 256 * (256 ^ length x * unle y) = rw pow_swap (mul_assoc 256 (256 ^ length x) (unle y)) in
    omega (arith, unle_append x y)

-- ---- parts and splices

pub part_add : (b : List ℕ) (at j k : ℕ) → part b at (j + k) ≡ part b at j ++ part b (at + j) k
unfolding part
part_add b at j k = take-add j k (drop at b) ∙ ap (λ (r : List ℕ). take j (drop at b) ++ take k r) (drop-drop j at b)

pub part_none : (b : List ℕ) (at : ℕ) → part b at 0 ≡ []
unfolding part
part_none b at = refl

pub splice_none : (b : List ℕ) (at : ℕ) → splice b at [] ≡ b
unfolding splice
splice_none b at = rw add-zero (take-append-drop at b)

-- the two, where b is cut already: a p before, then what is read or written over, then a q
pub part_at : (p x q : List ℕ) (at n : ℕ) → length p ≡ at → length x ≡ n → part (p ++ (x ++ q)) at n ≡ x
unfolding part
part_at p x q at n hp hx = rw (drop_at p (x ++ q) at hp) (take_at x q n hx)

pub splice_at : (p o q x : List ℕ) (at : ℕ) → length p ≡ at → length o ≡ length x → splice (p ++ (o ++ q)) at x ≡ p ++ (x ++ q)
unfolding splice
splice_at p o q x at hp ho =
    let l : length (p ++ o) ≡ at + length x = simp length-append (omega arith) in
    rw (take_at p (o ++ q) at hp, ← append_assoc p o q, drop_at (p ++ o) q (at + length x) l)

-- every list is cut so, where the part is within
pub cut : (b : List ℕ) (at n : ℕ) → b ≡ take at b ++ (part b at n ++ drop (at + n) b)
unfolding part
cut b at n = rw (← drop-drop n at b, take-append-drop, take-append-drop)

pub part_splice_same : (b : List ℕ) (at : ℕ) (x : List ℕ) → at + length x ≤ length b → part (splice b at x) at (length x) ≡ x
unfolding splice
part_splice_same b at x h =
    let e : at ≤ length b = omega arith in
    part_at (take at b) x (drop (at + length x) b) at (length x) (length-take-le at b e) refl

-- ---- of a list in two: what is read or written lies in the front, or in the back

pub part_front : (p q : List ℕ) (i n : ℕ) → i + n ≤ length p → part (p ++ q) i n ≡ part p i n
unfolding part
part_front p q i n h =
    let hi : i ≤ length p = omega arith in
    let hn : n ≤ length (drop i p) = simp length-drop (omega arith) in
    rw (drop-append-le i p q hi, take-append-le n (drop i p) q hn)

pub part_back : (p q : List ℕ) (k n : ℕ) → part (p ++ q) (length p + k) n ≡ part q k n
unfolding part
part_back p q k n = rw drop-append-add

-- the same, where the front's length is known by an equation
pub part_past : (p q : List ℕ) (m i n : ℕ) → length p ≡ m → m ≤ i → part (p ++ q) i n ≡ part q (i - m) n
part_past p q m i n e h =
    let f : i ≡ length p + (i - m) = omega arith in
    ap (λ (j : ℕ). part (p ++ q) j n) f ∙ part_back p q (i - m) n

-- a part of a part
pub part_part : (b : List ℕ) (a m i k : ℕ) → a + m ≤ length b → i + k ≤ m → part (part b a m) i k ≡ part b (a + i) k
part_part b a m i k l h =
    let p : List ℕ = take a b in
    let q : List ℕ = part b a m in
    let r : List ℕ = drop (a + m) b in
    let hp : length p ≡ a = length-take-le a b (omega arith) in
    let hq : length q ≡ m = length_part b a m l in
    let e : a + i - a ≡ i = omega arith in
    sym (ap (λ (x : List ℕ). part x (a + i) k) (cut b a m) ∙ part_past p (q ++ r) a (a + i) k hp (omega arith) ∙ ap (λ (j : ℕ). part (q ++ r) j k) e ∙ part_front q r i k (omega arith))

pub num_part : (b : List ℕ) (a m i j k : ℕ) → a + m ≤ length b → i + k ≤ m → j ≡ a + i → num (part b a m) i k ≡ num b j k
unfolding num
num_part b a m i j k l h e = rw (part_part b a m i k l h, e)

pub splice_front : (p q : List ℕ) (at : ℕ) (x : List ℕ) → at + length x ≤ length p → splice (p ++ q) at x ≡ splice p at x ++ q
unfolding splice
splice_front p q at x h =
    let ha : at ≤ length p = omega arith in
    rw (take-append-le at p q ha, drop-append-le (at + length x) p q h) (simp append_assoc)

pub splice_back : (p q : List ℕ) (k : ℕ) (x : List ℕ) → splice (p ++ q) (length p + k) x ≡ p ++ splice q k x
unfolding splice
splice_back p q k x = rw (take-append-add, add_assoc, drop-append-add) (simp append_assoc)

pub splice_past : (p q : List ℕ) (m i : ℕ) (x : List ℕ) → length p ≡ m → m ≤ i → splice (p ++ q) i x ≡ p ++ splice q (i - m) x
splice_past p q m i x e h =
    let f : i ≡ length p + (i - m) = omega arith in
    ap (λ (j : ℕ). splice (p ++ q) j x) f ∙ splice_back p q (i - m) x

-- ---- two splices, or a splice and a part

length_head : (b : List ℕ) (at : ℕ) (x : List ℕ) → at ≤ length b → length (take at b ++ x) ≡ at + length x
length_head b at x h = simp (length-append, length-take-le at b h)

pub part_splice_before : (b : List ℕ) (at : ℕ) (x : List ℕ) (i n : ℕ) → at + length x ≤ length b → at + length x ≤ i → part (splice b at x) i n ≡ part b i n
unfolding splice
part_splice_before b at x i n h l =
    let m : ℕ = at + length x in
    ap (λ (r : List ℕ). part r i n) (sym (append_assoc (take at b) x (drop m b)))
    ∙ part_past (take at b ++ x) (drop m b) m i n (length_head b at x (omega arith)) l
    ∙ sym (part_past (take m b) (drop m b) m i n (length-take-le m b h) l)
    ∙ ap (λ (r : List ℕ). part r i n) (take-append-drop m b)

pub part_splice_after : (b : List ℕ) (at : ℕ) (x : List ℕ) (i n : ℕ) → at ≤ length b → i + n ≤ at → part (splice b at x) i n ≡ part b i n
unfolding splice
part_splice_after b at x i n h l =
    let f : (q : List ℕ) → part (take at b ++ q) i n ≡ part (take at b) i n = λ q. part_front (take at b) q i n (rw length-take-le l) in
    f (x ++ drop (at + length x) b) ∙ sym (f (drop at b)) ∙ ap (λ (r : List ℕ). part r i n) (take-append-drop at b)

pub splice_splice_next : (b : List ℕ) (at : ℕ) (x y : List ℕ) → at + length x ≤ length b → splice (splice b at x) (at + length x) y ≡ splice b at (x ++ y)
unfolding splice
splice_splice_next b at x y h =
    let e : at ≤ length b = omega arith in
    let lp : length (take at b ++ x) ≡ at + length x = length_head b at x e in
    let d : List ℕ = drop (at + length x) b in
    rw (← append_assoc (take at b) x d, take_at (take at b ++ x) d (at + length x) lp, ← drop-drop (length y) (at + length x) ((take at b ++ x) ++ d), drop_at (take at b ++ x) d (at + length x) lp)
    (simp (append_assoc, length-append, ← add_assoc, drop-drop))

-- the same, as a run of writes has it
pub splice_next : (b : List ℕ) (at j : ℕ) (x y m e : List ℕ) → at + j ≤ length b → length x ≡ j → m ≡ splice b at x → e ≡ splice m (at + j) y → e ≡ splice b at (x ++ y)
splice_next b at j x y m e h l hm he = rw (he, hm, ← l) (splice_splice_next b at x y (omega arith))

-- the second splice lies past the first
pub splice_comm : (b : List ℕ) (at : ℕ) (x : List ℕ) (i : ℕ) (y : List ℕ) → at + length x ≤ i → i ≤ length b → splice (splice b at x) i y ≡ splice (splice b i y) at x
splice_comm b at x i y h l =
    let p : List ℕ = take i b in
    let q : List ℕ = drop i b in
    let hp : length p ≡ i = length-take-le i b l in
    let fits : at + length x ≤ length p = omega arith in
    let e : p ++ q ≡ b = take-append-drop i b in
    ap (λ (r : List ℕ). splice (splice r at x) i y) (sym e)
    ∙ ap (λ (r : List ℕ). splice r i y) (splice_front p q at x fits)
    ∙ splice_past (splice p at x) q i i y (length_splice p at x fits ∙ hp) (omega arith)
    ∙ sym (splice_front p (splice q (i - i) y) at x fits)
    ∙ ap (λ (r : List ℕ). splice r at x) (sym (splice_past p q i i y hp (omega arith)))
    ∙ ap (λ (r : List ℕ). splice (splice r i y) at x) e

-- a part is itself spliced: what a callee that was lent the part wrote in it
pub splice_inner : (b : List ℕ) (at n i : ℕ) (x : List ℕ) → at + n ≤ length b → i + length x ≤ n → splice b at (splice (part b at n) i x) ≡ splice b (at + i) x
splice_inner b at n i x h l =
    let p : List ℕ = take at b in
    let m : List ℕ = part b at n in
    let q : List ℕ = drop (at + n) b in
    let hp : length p ≡ at = length-take-le at b (omega arith) in
    let hm : length m ≡ n = length_part b at n h in
    let fits : i + length x ≤ length m = omega arith in
    let e : b ≡ p ++ (m ++ q) = cut b at n in
    let k : at + i - at ≡ i = omega arith in
    ap (λ (r : List ℕ). splice r at (splice m i x)) e
    ∙ splice_at p m q (splice m i x) at hp (sym (length_splice m i x fits))
    ∙ ap (λ (r : List ℕ). p ++ r) (sym (splice_front m q i x fits) ∙ ap (λ (j : ℕ). splice (m ++ q) j x) (sym k))
    ∙ sym (splice_past p (m ++ q) at (at + i) x hp (omega arith))
    ∙ ap (λ (r : List ℕ). splice r (at + i) x) (sym e)

-- what a callee that was lent n bytes from `at` left of them, as a splice: the form in which a part comes home
pub splice_home : (b : List ℕ) (at n : ℕ) (x : List ℕ) → length x ≡ n → take at b ++ (x ++ drop n (drop at b)) ≡ splice b at x
unfolding splice
splice_home b at n x e = rw (drop-drop, ← e)

-- the form in which a part to the end is lent
pub part_rest : (b : List ℕ) (at n m : ℕ) → length b ≡ at + n → m ≡ n → take m (drop at b) ≡ part b at n
unfolding part
part_rest b at n m l e = rw e

-- ---- one byte

pub num_one : (b : List ℕ) (at : ℕ) → at + 1 ≤ length b → get_or b at 0 ≡ num b at 1
unfolding num part unle
num_one b at h =
    let i : at < length b = omega arith in
    rw (drop-cons b at 0) (omega arith)

pub put_one : (b : List ℕ) (at v : ℕ) → at + 1 ≤ length b → v < 256 → set b at v ≡ splice b at (le 1 v)
unfolding splice le
put_one b at v h l =
    let m : v % 256 ≡ v = omega arith in
    let i : at < length b = omega arith in
    rw (m, add-one, set_split b at v)

-- ---- two halves: what a read or a write of twice the width is made of, at any width

pub part_past_end : (b : List ℕ) (at n : ℕ) → length b ≤ at → part b at n ≡ []
unfolding part
part_past_end b at n h = rw (drop_of_length-le b {i = at} h) (take-nil n)

pub num_past_end : (b : List ℕ) (at k : ℕ) → length b ≤ at → num b at k ≡ 0
unfolding num unle
num_past_end b at k h = rw (part_past_end b at k h)

-- also where the lower half is cut short: then the upper half is past the end
pub num_add : (b : List ℕ) (at j k : ℕ) → num b at (j + k) ≡ num b at j + num b (at + j) k * 256 ^ j
unfolding num
num_add b at j k = ap unle (part_add b at j k) ∙ unle_append (part b at j) (part b (at + j) k) ∙ ap (λ (n : ℕ). unle (part b at j) + n) (high (dec_le (at + j) (length b)))
  where
    high : Dec (at + j ≤ length b) → 256 ^ length (part b at j) * unle (part b (at + j) k) ≡ unle (part b (at + j) k) * 256 ^ j
    high (yes h) = rw (length_part b at j h) (mul_comm (256 ^ j) (unle (part b (at + j) k)))
    high (no n) =
        let e : unle (part b (at + j) k) ≡ 0 = num_past_end b (at + j) k (omega arith) in
        rw (e, mul-zero) (sym (zero-mul (256 ^ j)))

pub get_two : (b : List ℕ) (at j k u v : ℕ) → u ≡ num b at j → v ≡ num b (at + j) k → u + v * 256 ^ j ≡ num b at (j + k)
get_two b at j k u v eu ev = ap₂ (λ (x y : ℕ). x + y * 256 ^ j) eu ev ∙ sym (num_add b at j k)

-- the upper half is past the end
pub get_low : (b : List ℕ) (at j k u : ℕ) → u ≡ num b at j → length b ≤ at + j → u ≡ num b at (j + k)
get_low b at j k u e h = omega (arith, get_two b at j k u 0 e (sym (num_past_end b (at + j) k h)))

pub put_two : (b : List ℕ) (at j k v : ℕ) (m e : List ℕ) → at + j ≤ length b → m ≡ splice b at (le j (v % 256 ^ j)) → e ≡ splice m (at + j) (le k (v / 256 ^ j)) → e ≡ splice b at (le (j + k) v)
put_two b at j k v m e h hm he =
    splice_next b at j (le j v) (le k (v / 256 ^ j)) m e h (length_le j v) (hm ∙ ap (splice b at) (le_mod j v)) he
    ∙ ap (splice b at) (sym (le_add j k v))

-- a number at the front written over
pub number_over : (k n m : ℕ) (q : List ℕ) → splice (le k n ++ q) 0 (le k m) ≡ le k m ++ q
number_over k n m q = splice_at [] (le k n) q (le k m) 0 refl (length_le k n ∙ sym (length_le k m))

-- ---- a number at a place, after a splice

pub num_splice_same : (b : List ℕ) (at k v : ℕ) → at + k ≤ length b → v < 256 ^ k → num (splice b at (le k v)) at k ≡ v
unfolding num
num_splice_same b at k v h l =
    ap (λ (n : ℕ). unle (part (splice b at (le k v)) at n)) (sym (length_le k v))
    ∙ ap unle (part_splice_same b at (le k v) (rw length_le h))
    ∙ unle_le k v l

pub num_splice_before : (b : List ℕ) (at : ℕ) (x : List ℕ) (i k : ℕ) → at + length x ≤ length b → at + length x ≤ i → num (splice b at x) i k ≡ num b i k
unfolding num
num_splice_before b at x i k h l = ap unle (part_splice_before b at x i k h l)

pub num_splice_after : (b : List ℕ) (at : ℕ) (x : List ℕ) (i k : ℕ) → at ≤ length b → i + k ≤ at → num (splice b at x) i k ≡ num b i k
unfolding num
num_splice_after b at x i k h l = ap unle (part_splice_after b at x i k h l)

-- ---- bytes

pub bytes_take : (n : ℕ) (x : List ℕ) → Bytes x → Bytes (take n x)
bytes_take zero x h = tt
bytes_take (suc n) [] h = tt
bytes_take (suc n) (b ∷ bs) h = (h.0, bytes_take n bs h.1)

pub bytes_drop : (n : ℕ) (x : List ℕ) → Bytes x → Bytes (drop n x)
bytes_drop zero x h = h
bytes_drop (suc n) [] h = tt
bytes_drop (suc n) (b ∷ bs) h = bytes_drop n bs h.1

pub bytes_append : (x y : List ℕ) → Bytes x → Bytes y → Bytes (x ++ y)
bytes_append [] y hx hy = hy
bytes_append (b ∷ bs) y hx hy = (hx.0, bytes_append bs y hx.1 hy)

pub bytes_part : (b : List ℕ) (at n : ℕ) → Bytes b → Bytes (part b at n)
unfolding part
bytes_part b at n h = bytes_take n (drop at b) (bytes_drop at b h)

pub bytes_le : (k v : ℕ) → Bytes (le k v)
unfolding le
bytes_le zero v = tt
bytes_le (suc k) v = (mod-lt v (lit< tt), bytes_le k (v / 256))

-- what owning a slice of bytes tells
pub bytes_known : (b : List ℕ) → ((i : ℕ) → get_or b i 0 < 256) → Bytes b
bytes_known [] h = tt
bytes_known (x ∷ bs) h = (h 0, bytes_known bs (λ i. h (suc i)))

-- k bytes of a list of bytes, as the number that they say
pub le_num : (b : List ℕ) (at k : ℕ) → Bytes b → at + k ≤ length b → le k (num b at k) ≡ part b at k
unfolding num
le_num b at k h l = ap (λ (n : ℕ). le n (unle (part b at k))) (sym (length_part b at k l)) ∙ le_unle (part b at k) (bytes_part b at k h)

pub num_lt : (b : List ℕ) (at k : ℕ) → Bytes b → at + k ≤ length b → num b at k < 256 ^ k
unfolding num
num_lt b at k h l = rw (length_part b at k l) at (unle_lt (part b at k) (bytes_part b at k h))

-- ---- zeros

pub le_zero : (k : ℕ) → le k 0 ≡ replicate k 0
unfolding le
le_zero zero = refl
le_zero (suc k) = ap (λ (r : List ℕ). 0 ∷ r) (le_zero k)

pub zeros_append : (x y : List ℕ) → zeros (x ++ y) ≡ (zeros x && zeros y)
zeros_append [] y = refl
zeros_append (b ∷ x) y = ap (λ (r : Bool). eqb b 0 && r) (zeros_append x y) ∙ sym (and_assoc (eqb b 0) (zeros x) (zeros y))

pub zeros_part : (b : List ℕ) (at j k : ℕ) → zeros (part b at (j + k)) ≡ (zeros (part b at j) && zeros (part b (at + j) k))
zeros_part b at j k = ap zeros (part_add b at j k) ∙ zeros_append (part b at j) (part b (at + j) k)

pub zeros_unle : (x : List ℕ) → zeros x ≡ eqb (unle x) 0
unfolding unle
zeros_unle [] = refl
zeros_unle (b ∷ x) = rw (zeros_unle x) (go (eqb b 0) (eqb (unle x) 0) refl refl)
  where
    go : (p q : Bool) → eqb b 0 ≡ p → eqb (unle x) 0 ≡ q → (p && q) ≡ eqb (b + 256 * unle x) 0
    go true true e f = sym (eq-eqb (b + 256 * unle x) 0 (omega (arith, eqb-true b 0 e, eqb-true (unle x) 0 f)))
    go true false e f = sym (ne_eqb (b + 256 * unle x) 0 (λ z. eqb-false (unle x) 0 f (omega arith)))
    go false q e f = sym (ne_eqb (b + 256 * unle x) 0 (λ z. eqb-false b 0 e (omega arith)))

pub zeros_num : (b : List ℕ) (at k : ℕ) → zeros (part b at k) ≡ eqb (num b at k) 0
unfolding num
zeros_num b at k = zeros_unle (part b at k)

pub zeros_replicate : (n : ℕ) → zeros (replicate n 0) ≡ true
zeros_replicate zero = refl
zeros_replicate (suc n) = zeros_replicate n

pub zeros_are : (x : List ℕ) → zeros x ≡ true → x ≡ replicate (length x) 0
zeros_are [] h = refl
zeros_are (b ∷ bs) h = go (eqb b 0) refl h (zeros_are bs)
  where
    go : (p : Bool) → eqb b 0 ≡ p → (p && zeros bs) ≡ true → (zeros bs ≡ true → bs ≡ replicate (length bs) 0) → b ∷ bs ≡ 0 ∷ replicate (length bs) 0
    go true e f ih = ap₂ ◌∷◌ (eqb-true b 0 e) (ih f)
    go false e f ih = absurd (true≢false (sym f))
