-- One turn of each loop over a block, and the joint of its words and its rest: both are the same law, at any width. Assumes nothing.
use Prim.Native.Nat.{ℕ, suc, ◌+◌, ◌-◌, ◌≤◌, ◌<◌}
use mathlib.Core.Path.{◌≡◌, refl, sym, ap, ap₂, ◌∙◌}
use mathlib.Core.Bool.{Bool, true, false, ◌&&◌}
use mathlib.Core.List.{List, [], ◌∷◌, ◌++◌}
use native.Mathlib.Omega.{arith}
use lib.ListN.{length, take, drop, get_or, replicate, length-replicate}
use Rattle.std.proofs.Common.{IsTrue, EachIndex, ◌↔◌}
use Rattle.std.proofs.lemmas.List.{get_or-replicate}
use lib.Dec.{eqb}
use borrow.Author.Tests.{eq-eqb, ne_eqb}
use Rattle.octets.specs.Bytes.{le, part, num, splice, zeros}
use Rattle.octets.proofs.Laws.{length_part, part_add, part_none, part_splice_before, part_splice_after, splice_none, splice_next, splice_comm, splice_home, bytes_known, le_num, zeros_part, zeros_num, zeros_are}
use Rattle.octets.proofs.Sections.{part_whole}

-- ---- before the first turn, and after the last

pub none_yet : (d : List ℕ) (at : ℕ) (s : List ℕ) (from : ℕ) → d ≡ splice d at (part s from 0)
none_yet d at s from = sym (ap (splice d at) (part_none s from) ∙ splice_none d at)

pub all_done : (d : List ℕ) (at : ℕ) (s : List ℕ) (from i n : ℕ) (e : List ℕ) → i ≤ n → n ≤ i → e ≡ splice d at (part s from i) → e ≡ splice d at (part s from n)
all_done d at s from i n e l h he =
    let q : i ≡ n = omega arith in
    rw q at he

-- ---- k bytes, read as a number and written so

pub written : (s : List ℕ) (from k v : ℕ) (m : List ℕ) (at : ℕ) (e : List ℕ) → v ≡ num s from k → e ≡ splice m at (le k v) → ((i : ℕ) → get_or s i 0 < 256) → from + k ≤ length s → e ≡ splice m at (part s from k)
written s from k v m at e hv he hb h = he ∙ ap (λ (n : ℕ). splice m at (le k n)) hv ∙ ap (splice m at) (le_num s from k (bytes_known s hb) h)

-- ---- copied from another list: j bytes, then k, which are n

pub copy_next : (d : List ℕ) (at : ℕ) (s : List ℕ) (from j k n : ℕ) (m e : List ℕ) → m ≡ splice d at (part s from j) → e ≡ splice m (at + j) (part s (from + j) k) → at + j ≤ length d → from + j ≤ length s → j + k ≡ n → e ≡ splice d at (part s from n)
copy_next d at s from j k n m e hm he h l q =
    splice_next d at j (part s from j) (part s (from + j) k) m e h (length_part s from j l) hm he ∙ ap (splice d at) (sym (part_add s from j k) ∙ ap (part s from) q)

pub copy_turn : (d : List ℕ) (at : ℕ) (s : List ℕ) (from j k n v : ℕ) (m e : List ℕ) → m ≡ splice d at (part s from j) → v ≡ num s (from + j) k → e ≡ splice m (at + j) (le k v) → ((i : ℕ) → get_or s i 0 < 256) → at + j ≤ length d → from + j + k ≤ length s → j + k ≡ n → e ≡ splice d at (part s from n)
copy_turn d at s from j k n v m e hm hv he hb h l q =
    copy_next d at s from j k n m e hm (written s (from + j) k v m (at + j) e hv he hb l) h (omega arith) q

pub copy_all : (d : List ℕ) (at : ℕ) (s : List ℕ) (j k : ℕ) (m e : List ℕ) → m ≡ splice d at (part s 0 j) → e ≡ splice m (at + j) (part s j k) → at + j ≤ length d → j + k ≡ length s → e ≡ splice d at s
copy_all d at s j k m e hm he h q =
    let z : j ≡ 0 + j = omega arith in
    copy_next d at s 0 j k (length s) m e hm (he ∙ ap (λ (i : ℕ). splice m (at + j) (part s i k)) z) h (omega arith) q ∙ ap (splice d at) (part_whole s (length s) (omega arith))

-- ---- moved down within a list: j bytes, then the k above them, which still stand

pub down_next : (d : List ℕ) (to from j k n : ℕ) (m e : List ℕ) → m ≡ splice d to (part d from j) → e ≡ splice m (to + j) (part m (from + j) k) → to ≤ from → from + j ≤ length d → j + k ≡ n → e ≡ splice d to (part d from n)
down_next d to from j k n m e hm he h l q =
    let x : List ℕ = part d from j in
    let lx : length x ≡ j = length_part d from j l in
    let still : part m (from + j) k ≡ part d (from + j) k = ap (λ (r : List ℕ). part r (from + j) k) hm ∙ part_splice_before d to x (from + j) k (omega arith) (omega arith) in
    copy_next d to d from j k n m e hm (he ∙ ap (splice m (to + j)) still) (omega arith) l q

-- ---- moved up within a list: the upper k bytes, then the j below them, which still stand

pub up_next : (d : List ℕ) (to from j k n : ℕ) (m e : List ℕ) → m ≡ splice d (to + j) (part d (from + j) k) → e ≡ splice m to (part m from j) → from ≤ to → to + n ≤ length d → j + k ≡ n → e ≡ splice d to (part d from n)
up_next d to from j k n m e hm he h l q =
    let x : List ℕ = part d from j in
    let y : List ℕ = part d (from + j) k in
    let lx : length x ≡ j = length_part d from j (omega arith) in
    let still : part m from j ≡ x = ap (λ (r : List ℕ). part r from j) hm ∙ part_splice_after d (to + j) y from j (omega arith) (omega arith) in
    he ∙ ap₂ (λ (r z : List ℕ). splice r to z) hm still ∙ sym (splice_comm d to x (to + j) y (omega arith) (omega arith))
    ∙ copy_next d to d from j k n (splice d to x) (splice (splice d to x) (to + j) y) refl refl (omega arith) (omega arith) q

-- the same, as the loop counts: i bytes are left to move, and then j, since k of them move now
pub up_turn : (d : List ℕ) (to from n i j k : ℕ) (m e : List ℕ) → m ≡ splice d (to + i) (part d (from + i) (n - i)) → e ≡ splice m (to + j) (part m (from + j) k) → from ≤ to → to + n ≤ length d → j + k ≡ i → i ≤ n → e ≡ splice d (to + j) (part d (from + j) (n - j))
up_turn d to from n i j k m e hm he h l hk hi =
    let a : to + i ≡ to + j + k = omega arith in
    let b : from + i ≡ from + j + k = omega arith in
    up_next d (to + j) (from + j) k (n - i) (n - j) m e (hm ∙ ap₂ (λ (o r : ℕ). splice d o (part d r (n - i))) a b) he (omega arith) (omega arith) (omega arith)

pub up_none : (d : List ℕ) (to from n i : ℕ) → i ≡ n → d ≡ splice d (to + i) (part d (from + i) (n - i))
up_none d to from n i q =
    let z : n - i ≡ 0 = omega arith in
    rw z (none_yet d (to + i) d (from + i))

pub up_done : (d : List ℕ) (to from n i : ℕ) (e : List ℕ) → e ≡ splice d (to + i) (part d (from + i) (n - i)) → i ≤ 0 → e ≡ splice d to (part d from n)
up_done d to from n i e he h =
    let a : to + i ≡ to = omega arith in
    let b : from + i ≡ from = omega arith in
    let z : n - i ≡ n = omega arith in
    rw (a, b, z) at he

-- ---- what the library's method leaves, as a splice

-- a part filled with zeros
pub zeros_home : (s : List ℕ) (at n m k : ℕ) → m ≡ n → k ≡ n → take at s ++ (replicate k 0 ++ drop m (drop at s)) ≡ splice s at (replicate n 0)
zeros_home s at n m k p q = rw (p, q) (splice_home s at n (replicate n 0) (length-replicate n 0))

-- ---- zeros tested: j bytes, then k, which are n

pub zeros_both : (s : List ℕ) (at j k n : ℕ) (p q : Bool) → p ≡ zeros (part s at j) → q ≡ zeros (part s (at + j) k) → j + k ≡ n → (p && q) ≡ zeros (part s at n)
zeros_both s at j k n p q hp hq e = ap₂ ◌&&◌ hp hq ∙ sym (zeros_part s at j k) ∙ ap (λ (i : ℕ). zeros (part s at i)) e

-- a word, by the number that it says
pub zeros_word : (s : List ℕ) (at k v : ℕ) → v ≡ num s at k → eqb v 0 ≡ zeros (part s at k)
zeros_word s at k v e = rw e (sym (zeros_num s at k))

-- the same where the k bytes' place has a name of its own, and for two words
pub zeros_joint : (s : List ℕ) (at o j k n : ℕ) (p q : Bool) → p ≡ zeros (part s at j) → q ≡ zeros (part s o k) → o ≡ at + j → j + k ≡ n → (p && q) ≡ zeros (part s at n)
zeros_joint s at o j k n p q hp hq w e = zeros_both s at j k n p q hp (hq ∙ ap (λ (i : ℕ). zeros (part s i k)) w) e

pub zeros_pair : (s : List ℕ) (at o u v : ℕ) → u ≡ num s at 8 → v ≡ num s o 8 → o ≡ at + 8 → (eqb u 0 && eqb v 0) ≡ zeros (part s at 16)
zeros_pair s at o u v hu hv w = zeros_joint s at o 8 8 16 (eqb u 0) (eqb v 0) (zeros_word s at 8 u hu) (zeros_word s o 8 v hv) w (omega arith)

-- the j bytes before are zero: so are all where the k next are, and not all where these are not
pub zeros_on : (s : List ℕ) (at j k : ℕ) (x : Bool) → zeros (part s at j) ≡ true → x ≡ zeros (part s (at + j) k) → x ≡ true → zeros (part s at (j + k)) ≡ true
zeros_on s at j k x h e z = sym (zeros_both s at j k (j + k) true true (sym h) (sym z ∙ e) refl)

pub zeros_off : (s : List ℕ) (at j k n : ℕ) (x : Bool) → zeros (part s at j) ≡ true → x ≡ zeros (part s (at + j) k) → x ≡ false → j + k ≤ n → false ≡ zeros (part s at n)
zeros_off s at j k n x h e z l =
    let r : ℕ = n - (j + k) in
    zeros_both s at j (k + r) n true false (sym h) (zeros_both s (at + j) k r (k + r) false (zeros (part s (at + j + k) r)) (sym z ∙ e) refl refl) (omega arith)

pub zeros_pass : (s : List ℕ) (at j k v : ℕ) → zeros (part s at j) ≡ true → v ≡ num s (at + j) k → v ≡ 0 → zeros (part s at (j + k)) ≡ true
zeros_pass s at j k v h e z = zeros_on s at j k (eqb v 0) h (zeros_word s (at + j) k v e) (eq-eqb v 0 z)

pub zeros_stop : (s : List ℕ) (at j k n v : ℕ) → zeros (part s at j) ≡ true → v ≡ num s (at + j) k → (v ≡ 0 → ⊥) → j + k ≤ n → false ≡ zeros (part s at n)
zeros_stop s at j k n v h e z l = zeros_off s at j k n (eqb v 0) h (zeros_word s (at + j) k v e) (ne_eqb v 0 z) l

pub zeros_none : (s : List ℕ) (at : ℕ) → zeros (part s at 0) ≡ true
zeros_none s at = ap zeros (part_none s at)

-- a first part that is zero, under another name of its length
pub zeros_begun : (s : List ℕ) (at j k : ℕ) (x : Bool) → x ≡ zeros (part s at k) → x ≡ true → j ≡ k → zeros (part s at j) ≡ true
zeros_begun s at j k x e z q = ap (λ (i : ℕ). zeros (part s at i)) q ∙ sym e ∙ z

pub zeros_done : (s : List ℕ) (at i n : ℕ) → zeros (part s at i) ≡ true → i ≤ n → n ≤ i → true ≡ zeros (part s at n)
zeros_done s at i n h l g =
    let q : i ≡ n = omega arith in
    sym (rw q at h)

-- the same, element by element
pub zeros_each : (s x : List ℕ) (at n : ℕ) (r : Bool) → (IsTrue r ↔ EachIndex x (λ i. get_or x i 0 ≡ 0)) → x ≡ part s at n → r ≡ zeros (part s at n)
zeros_each s x at n true f e = rw (← e) (sym (are x (f.0 refl)))
  where
    are : (y : List ℕ) → ((i : ℕ) → i < length y → get_or y i 0 ≡ 0) → zeros y ≡ true
    are [] h = refl
    are (b ∷ bs) h = rw (eq-eqb b 0 (h 0 (omega arith))) (are bs (λ i l. h (suc i) (omega arith)))
zeros_each s x at n false f e = rw (← e) (not_all (zeros x) refl)
  where
    each : (i : ℕ) → zeros x ≡ true → i < length x → get_or x i 0 ≡ 0
    each i z l = ap (λ (y : List ℕ). get_or y i 0) (zeros_are x z) ∙ get_or-replicate (length x) i 0 0 l

    not_all : (p : Bool) → zeros x ≡ p → false ≡ p
    not_all false q = refl
    not_all true q = f.1 (λ i l. each i q l)
