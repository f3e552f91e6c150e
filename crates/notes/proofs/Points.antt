-- What each way through the reads of a note tells: its transaction, its points, the groups of a mask. Assumes nothing.
use Prim.Native.Nat.{ℕ, zero, suc, ◌+◌, ◌≤◌, ◌<◌, max}
use mathlib.Core.Path.{◌≡◌, refl, sym, ap, ◌∙◌}
use mathlib.Core.Bool.{Bool, true, false, ◌&&◌, ◌||◌, not, and-true, and-false, or-false}
use mathlib.Core.Option.{Option, none, some}
use mathlib.Core.List.{List, []}
use native.Mathlib.Omega.{arith}
use native.Mathlib.Decide.{dec_lt}
use native.Mathlib.Numerals.{add-one}
use lib.ListN.{length, get_or}
use lib.Dec.{eqb}
use borrow.Author.Tests.{eq-eqb, ne_eqb}
use Rattle.octets.specs.Bytes.{le, num, splice}
use Rattle.octets.proofs.Laws.{length_le, splice_next}
use Rattle.rules.specs.Choice.{pick, is_some}
use Rattle.rules.specs.Group.{holds}
use Rattle.rules.specs.State.{value_of, noted_to, greatest_to}
use Rattle.rules.specs.Image.{point_bytes, point_at}
use Rattle.rules.proofs.Tests.{pick_true, pick_false}

-- ---- a transaction, the request first

module _ (b : List ℕ) (at request coordinator v : ℕ) where
  pub other_request : v ≡ num b at 4 → (v ≡ request → ⊥) → eqb v request ≡ (eqb (num b (at + 4) 2) coordinator && eqb (num b at 4) request)
  other_request e n = ne_eqb v request n ∙ go (eqb (num b (at + 4) 2) coordinator)
    where
      go : (a : Bool) → false ≡ (a && eqb (num b at 4) request)
      go true = sym (ne_eqb (num b at 4) request (λ q. n (e ∙ q)))
      go false = refl

  pub same_request : (w : ℕ) → v ≡ num b at 4 → v ≡ request → w ≡ num b (at + 4) 2 → eqb w coordinator ≡ (eqb (num b (at + 4) 2) coordinator && eqb (num b at 4) request)
  same_request w e q f = rw (eq-eqb (num b at 4) request (sym e ∙ q), f) (sym (and-true (eqb (num b (at + 4) 2) coordinator)))

-- ---- a point

module _ (b : List ℕ) (at f : ℕ) (e : f ≡ num b at 1) where
  pub not_heard : f ≡ 0 → none ≡ point_at b at
  unfolding point_at
  not_heard z = sym (pick_true (eqb (num b at 1) 0) none (some (num b (at + 1) 8)) (eq-eqb (num b at 1) 0 (sym e ∙ z)))

  pub was_heard : (v : ℕ) → (f ≡ 0 → ⊥) → v ≡ num b (at + 1) 8 → some v ≡ point_at b at
  unfolding point_at
  was_heard v n d = ap some d ∙ sym (pick_false (eqb (num b at 1) 0) none (some (num b (at + 1) 8)) (ne_eqb (num b at 1) 0 (λ q. n (e ∙ q))))

  pub heard_flag : not (eqb f 0) ≡ is_some (point_at b at)
  unfolding point_at pick
  heard_flag = rw (← e) (go (eqb f 0))
    where
      go : (a : Bool) → not a ≡ is_some (pick a none (some (num b (at + 1) 8)))
      go true = refl
      go false = refl

-- ---- the greater of a point and best

module _ (b : List ℕ) (at : ℕ) (held : Bool) (best : ℕ) where
  -- of a group that is not in the mask nothing is read
  pub not_in_mask : held ≡ false → best ≡ pick held (max best (value_of (point_at b at))) best
  not_in_mask h = sym (pick_false held (max best (value_of (point_at b at))) best h)

  pub in_mask : held ≡ true → (p : Option ℕ) (r : ℕ) → p ≡ point_at b at → r ≡ max best (value_of p) → r ≡ pick held (max best (value_of (point_at b at))) best
  in_mask h p r e m = m ∙ ap (λ (q : Option ℕ). max best (value_of q)) e ∙ sym (pick_true held (max best (value_of (point_at b at))) best h)

-- a flag and a timestamp are written
pub put_stamp : (b m r : List ℕ) (at t : ℕ) → at + 9 ≤ length b → m ≡ splice b at (le 1 1) → r ≡ splice m (at + 1) (le 8 t) → r ≡ splice b at (point_bytes (some t))
unfolding point_bytes
put_stamp b m r at t h hm hr = splice_next b at 1 (le 1 1) (le 8 t) m r (omega arith) (length_le 1 1) hm hr

-- ---- a test of each below n, up to the first that fails

pub fold_stop : (f q : ℕ → Bool) (n : ℕ) → ((m : ℕ) → m < n → f (m + 1) ≡ (f m && q m)) → (i : ℕ) → i < n → q i ≡ false → false ≡ f n
fold_stop f q zero e i l h = absurd (omega arith)
fold_stop f q (suc n) e i l h = sym (rw add-one at (e n (omega arith)) ∙ go (dec_lt i n) (λ m. fold_stop f q n (λ k d. e k (omega arith)) i m h))
  where
    go : Dec (i < n) → (i < n → false ≡ f n) → (f n && q n) ≡ false
    go (yes m) d = rw (← d m)
    go (no m) d = let p : n ≡ i = omega arith in rw (p, h) (and-false (f i))

fold_all : (f q : ℕ → Bool) (n : ℕ) → f 0 ≡ true → ((m : ℕ) → m < n → f (m + 1) ≡ (f m && q m)) → ((j : ℕ) → j < n → q j ≡ true) → f n ≡ true
fold_all f q zero z e h = z
fold_all f q (suc n) z e h = rw add-one at (e n (omega arith)) ∙ rw (fold_all f q n z (λ m l. e m (omega arith)) (λ j l. h j (omega arith)), h n (omega arith))

-- what `all` says of the numbers below n
pub fold_by : (f q : ℕ → Bool) (n : ℕ) (r : Bool) → f 0 ≡ true → ((m : ℕ) → m < n → f (m + 1) ≡ (f m && q m)) → (r ≡ true → (j : ℕ) → j < n → q j ≡ true) → (r ≡ false → (j : ℕ) × (j < n) × (q j ≡ false)) → r ≡ f n
fold_by f q n true z e h g = sym (fold_all f q n z e (h refl))
fold_by f q n false z e h g = let w = g refl in fold_stop f q n e w.0 w.1 w.2

-- ---- the groups of a mask, one after the other

module _ (mask : ℕ) (ts : List (Option ℕ)) where
  -- what is asked of group j
  abbrev pub has_noted : ℕ → Bool
  has_noted j = not (holds mask j) || is_some (get_or ts j none)

  pub noted_none : true ≡ noted_to mask ts 0
  unfolding noted_to
  noted_none = refl

  noted_turn : (j : ℕ) → noted_to mask ts (j + 1) ≡ (noted_to mask ts j && has_noted j)
  unfolding noted_to
  noted_turn j = rw add-one

  pub noted_next : (j : ℕ) (all held heard : Bool) → all ≡ noted_to mask ts j → held ≡ holds mask j → heard ≡ is_some (get_or ts j none) → (all && (not held || heard)) ≡ noted_to mask ts (j + 1)
  unfolding noted_to
  noted_next j all held heard a h k = rw (add-one j, a, h, k)

  pub noted_by : (n : ℕ) (r : Bool) → (r ≡ true → (j : ℕ) → j < n → has_noted j ≡ true) → (r ≡ false → (j : ℕ) × (j < n) × (has_noted j ≡ false)) → r ≡ noted_to mask ts n
  noted_by n r h g = fold_by (noted_to mask ts) has_noted n r (sym noted_none) (λ m d. noted_turn m) h g

  pub greatest_none : 0 ≡ greatest_to mask ts 0
  unfolding greatest_to
  greatest_none = refl

  pub greatest_next : (j best r : ℕ) (held : Bool) (p : Option ℕ) → best ≡ greatest_to mask ts j → held ≡ holds mask j → p ≡ get_or ts j none → r ≡ pick held (max best (value_of p)) best → r ≡ greatest_to mask ts (j + 1)
  unfolding greatest_to
  greatest_next j best r held p b h k q = rw (add-one j) (rw (← b, ← h, ← k) q)

-- none was heard
pub unmasked_by : (mask n : ℕ) (r : Bool) → (r ≡ true → (j : ℕ) → j < n → not (holds mask j) ≡ true) → (r ≡ false → (j : ℕ) × (j < n) × (not (holds mask j) ≡ false)) → r ≡ noted_to mask [] n
unmasked_by mask n r h g = noted_by mask [] n r (λ q j l. or-false (not (holds mask j)) ∙ h q j l) (λ q. let w = g q in (w.0, w.1, or-false (not (holds mask w.0)) ∙ w.2))

pub greatest_of_none : (mask s : ℕ) → 0 ≡ greatest_to mask [] s
unfolding greatest_to
greatest_of_none mask zero = refl
greatest_of_none mask (suc j) = go (holds mask j) (greatest_to mask [] j) (greatest_of_none mask j)
  where
    go : (h : Bool) (g : ℕ) → 0 ≡ g → 0 ≡ pick h (max g 0) g
    go true g e = e ∙ sym (pick_true true (max g 0) g refl ∙ omega arith)
    go false g e = e ∙ sym (pick_false false (max g 0) g refl)
