-- A list of bytes as sections in a row. The sections are a list of lists that a user writes out, so `get_or`, `set` and `offset` at a
-- numeral compute: a field's getter and setter law are `get_section` and `set_section` at its number. Assumes nothing.
use Prim.Native.Nat.{ℕ, zero, suc, ◌+◌, ◌≤◌, ◌<◌}
use mathlib.Core.Path.{◌≡◌, refl, sym, ap, ◌∙◌}
use mathlib.Core.List.{List, [], ◌∷◌, ◌++◌, append-nil}
use native.Mathlib.Nat.{add_assoc, not-suc-le-zero, le_of_suc-le-suc}
use native.Mathlib.Omega.{arith}
use lib.ListN.{length, take, drop, get_or, set, length-append, drop_of_length-le, take-append-drop}
use lib.Seq.{take_all, drop-drop}
use Rattle.octets.specs.Bytes.{part, splice}
use Rattle.octets.specs.Sections.{concat, offset, cuts, total}
use Rattle.octets.proofs.Laws.{part_front, part_back, splice_front, splice_back}

pub length_concat : (ss : List (List ℕ)) → length (concat ss) ≡ offset ss (length ss)
unfolding concat
length_concat [] = refl
length_concat (s ∷ ss) = length-append s (concat ss) ∙ ap (λ (n : ℕ). length s + n) (length_concat ss)

-- ---- of a list against itself whole

pub part_whole : (s : List ℕ) (n : ℕ) → length s ≤ n → part s 0 n ≡ s
unfolding part
part_whole s n h = take_all n s h

pub splice_whole : (s x : List ℕ) → length x ≡ length s → splice s 0 x ≡ x
unfolding splice
splice_whole s x e =
    let l : length s ≤ 0 + length x = omega arith in
    rw (drop_of_length-le s l) (append-nil x)

-- ---- inside section i, from its place k on

pub get_in_section : (ss : List (List ℕ)) (i k at n : ℕ) → i < length ss → at ≡ offset ss i + k → k + n ≤ length (get_or ss i []) → part (concat ss) at n ≡ part (get_or ss i []) k n
unfolding concat
get_in_section [] i k at n l e h = absurd (not-suc-le-zero l)
get_in_section (s ∷ ss) zero k at n l e h =
    let z : at ≡ k = omega arith in
    ap (λ (j : ℕ). part (s ++ concat ss) j n) z ∙ part_front s (concat ss) k n h
get_in_section (s ∷ ss) (suc i) k at n l e h =
    ap (λ (j : ℕ). part (s ++ concat ss) j n) (e ∙ add_assoc (length s) (offset ss i) k)
    ∙ part_back s (concat ss) (offset ss i + k) n
    ∙ get_in_section ss i k (offset ss i + k) n (le_of_suc-le-suc l) refl h

pub set_in_section : (ss : List (List ℕ)) (i k at : ℕ) (x : List ℕ) → i < length ss → at ≡ offset ss i + k → k + length x ≤ length (get_or ss i []) → splice (concat ss) at x ≡ concat (set ss i (splice (get_or ss i []) k x))
unfolding concat
set_in_section [] i k at x l e h = absurd (not-suc-le-zero l)
set_in_section (s ∷ ss) zero k at x l e h =
    let z : at ≡ k = omega arith in
    ap (λ (j : ℕ). splice (s ++ concat ss) j x) z ∙ splice_front s (concat ss) k x h
set_in_section (s ∷ ss) (suc i) k at x l e h =
    ap (λ (j : ℕ). splice (s ++ concat ss) j x) (e ∙ add_assoc (length s) (offset ss i) k)
    ∙ splice_back s (concat ss) (offset ss i + k) x
    ∙ ap (λ (r : List ℕ). s ++ r) (set_in_section ss i k (offset ss i + k) x (le_of_suc-le-suc l) refl h)

-- ---- section i whole

pub get_section : (ss : List (List ℕ)) (i at n : ℕ) → i < length ss → at ≡ offset ss i → n ≡ length (get_or ss i []) → part (concat ss) at n ≡ get_or ss i []
get_section ss i at n l e h = get_in_section ss i 0 at n l (omega arith) (omega arith) ∙ part_whole (get_or ss i []) n (omega arith)

pub set_section : (ss : List (List ℕ)) (i at : ℕ) (x : List ℕ) → i < length ss → at ≡ offset ss i → length x ≡ length (get_or ss i []) → splice (concat ss) at x ≡ concat (set ss i x)
set_section ss i at x l e h =
    set_in_section ss i 0 at x l (omega arith) (omega arith) ∙ ap (λ (r : List ℕ). concat (set ss i r)) (splice_whole (get_or ss i []) x h)

-- ---- any list, cut at given lengths

pub concat_cuts : (b : List ℕ) (at : ℕ) (ns : List ℕ) → length b ≡ at + total ns → concat (cuts b at ns) ≡ drop at b
unfolding concat part
concat_cuts b at [] e = sym (drop_of_length-le b {i = at} (omega arith))
concat_cuts b at (n ∷ ns) e =
    ap (λ (r : List ℕ). take n (drop at b) ++ r) (concat_cuts b (at + n) ns (omega arith) ∙ sym (drop-drop n at b)) ∙ take-append-drop n (drop at b)
