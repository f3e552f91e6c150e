-- Things that pass a test, one more at a time: how many, in a list of their own, and moved to the front. Assumes nothing.
use Prim.Native.Nat.{ℕ, zero, suc, ◌+◌, ◌≤◌, ◌<◌}
use mathlib.Core.Path.{◌≡◌, refl, sym, ap, ◌∙◌}
use mathlib.Core.Bool.{Bool, true, false}
use mathlib.Core.List.{List, [], ◌∷◌, ◌++◌, append-nil}
use native.Mathlib.Omega.{arith}
use native.Mathlib.Nat.{add-zero}
use native.Mathlib.Numerals.{add-one}
use lib.ListN.{length, take, drop, get_or, set, length-set, length-append}
use lib.Seq.{take-suc, take-suc-set, take_all, drop-drop, get_or-drop}
use Rattle.rules.specs.Choice.{pick, keep}
use Rattle.rules.proofs.Tests.{pick_true, pick_false}
use Rattle.entries.proofs.Sifting.{keep_last}
use Rattle.early.specs.Moved.{moved, moved_to}

module _ {A : Type 0} where
  -- two tests that agree
  pub keep_like : (p q : A → Bool) → ((x : A) → p x ≡ q x) → (xs : List A) → keep p xs ≡ keep q xs
  unfolding keep
  keep_like p q h [] = refl
  keep_like p q h (x ∷ xs) = rw (h x, keep_like p q h xs)

  drop_set : (xs : List A) (j i : ℕ) (x : A) → j < i → drop i (set xs j x) ≡ drop i xs
  drop_set [] j i x h = refl
  drop_set (y ∷ xs) zero zero x h = absurd (omega arith)
  drop_set (y ∷ xs) zero (suc i) x h = refl
  drop_set (y ∷ xs) (suc j) zero x h = absurd (omega arith)
  drop_set (y ∷ xs) (suc j) (suc i) x h = drop_set xs j i x (omega arith)

-- ---- one more

module _ {A : Type 0} (p : A → Bool) (d : A) (xs : List A) (i : ℕ) (l : i < length xs) where
  pub keep_next : keep p (take (i + 1) xs) ≡ keep p (take i xs) ++ pick (p (get_or xs i d)) (get_or xs i d ∷ []) []
  keep_next = ap (keep p) (rw add-one (take-suc xs i d l)) ∙ keep_last p (take i xs) (get_or xs i d)

  pub keep_yes : p (get_or xs i d) ≡ true → keep p (take (i + 1) xs) ≡ keep p (take i xs) ++ (get_or xs i d ∷ [])
  keep_yes h = keep_next ∙ ap (λ (r : List A). keep p (take i xs) ++ r) (pick_true _ (get_or xs i d ∷ []) [] h)

  pub keep_no : p (get_or xs i d) ≡ false → keep p (take (i + 1) xs) ≡ keep p (take i xs)
  keep_no h = keep_next ∙ ap (λ (r : List A). keep p (take i xs) ++ r) (pick_false _ (get_or xs i d ∷ []) [] h) ∙ append-nil (keep p (take i xs))

  module _ (n m : ℕ) (x : A) (b : Bool) (hn : n ≡ length (keep p (take i xs))) (e : x ≡ get_or xs i d) (q : b ≡ p x) where
    pub count_yes : b ≡ true → m ≡ n + 1 → m ≡ length (keep p (take (i + 1) xs))
    count_yes t v = v ∙ sym (ap length (keep_yes (ap p (sym e) ∙ sym q ∙ t)) ∙ length-append (keep p (take i xs)) (get_or xs i d ∷ []) ∙ ap (λ (k : ℕ). k + 1) (sym hn))

    pub count_no : b ≡ false → m ≡ n → m ≡ length (keep p (take (i + 1) xs))
    count_no t v = v ∙ hn ∙ sym (ap length (keep_no (ap p (sym e) ∙ sym q ∙ t)))

pub keep_none : {A : Type 0} (p : A → Bool) (xs : List A) → keep p (take 0 xs) ≡ []
unfolding keep
keep_none p xs = refl

pub count_none : {A : Type 0} (p : A → Bool) (xs : List A) → 0 ≡ length (keep p (take 0 xs))
unfolding keep
count_none p xs = refl

pub count_done : {A : Type 0} (p : A → Bool) (xs : List A) (i n : ℕ) → length xs ≤ i → n ≡ length (keep p (take i xs)) → n ≡ length (keep p xs)
count_done p xs i n l h = h ∙ ap (λ (ys : List _). length (keep p ys)) (take_all i xs l)

-- ---- one is moved

module _ {A : Type 0} (p : A → Bool) (d : A) (H : List A → Type 0) (xs : List A) (i kept : ℕ) (x : A) (b : Bool) (e : x ≡ get_or xs i d) (q : b ≡ p x) where
  pub moved_no : b ≡ false → H xs → H (moved p d xs i kept) × (kept ≡ moved_to p d xs i kept)
  unfolding moved moved_to
  moved_no f h =
      let a : p (get_or xs i d) ≡ false = ap p (sym e) ∙ sym q ∙ f in
      (rw (pick_false _ (set xs kept (get_or xs i d)) xs a) h, sym (pick_false _ (kept + 1) kept a))

  pub moved_yes : b ≡ true → H (set xs kept x) → H (moved p d xs i kept) × (kept + 1 ≡ moved_to p d xs i kept)
  unfolding moved moved_to
  moved_yes t h =
      let a : p (get_or xs i d) ≡ true = ap p (sym e) ∙ sym q ∙ t in
      (rw (pick_true _ (set xs kept (get_or xs i d)) xs a, ← e) h, sym (pick_true _ (kept + 1) kept a))

-- ---- of the first i, those that pass stand first; those from i on are as they came

pub record Sifted {A : Type 0} (p : A → Bool) (xs : List A) (i kept : ℕ) (ys : List A) : Type 0 where
  pub within : kept ≤ i
  pub long : length ys ≡ length xs
  pub front : take kept ys ≡ keep p (take i xs)
  pub back : drop i ys ≡ drop i xs

pub sift_start : {A : Type 0} (p : A → Bool) (xs : List A) → Sifted p xs 0 0 xs
unfolding keep
sift_start p xs = record { within = omega arith; long = refl; front = refl; back = refl }

pub sift_end : {A : Type 0} (p : A → Bool) (xs : List A) (i kept : ℕ) (ys : List A) → Sifted p xs i kept ys → length xs ≤ i → take kept ys ≡ keep p xs
sift_end p xs i kept ys s l = s.front ∙ ap (keep p) (take_all i xs l)

module _ {A : Type 0} (p : A → Bool) (d : A) (xs : List A) (i kept : ℕ) (ys : List A) (s : Sifted p xs i kept ys) (l : i < length xs) where
  same_at : get_or ys i d ≡ get_or xs i d
  same_at =
      ap (λ (k : ℕ). get_or ys k d) (sym (add-zero i)) ∙ sym (get_or-drop i ys 0 d) ∙ ap (λ (r : List A). get_or r 0 d) s.back ∙ get_or-drop i xs 0 d ∙ ap (λ (k : ℕ). get_or xs k d) (add-zero i)

  back_next : drop (i + 1) ys ≡ drop (i + 1) xs
  back_next = sym (drop-drop 1 i ys) ∙ ap (drop 1) s.back ∙ drop-drop 1 i xs

  turn : (b : Bool) → p (get_or ys i d) ≡ b → Sifted p xs (i + 1) (pick b (kept + 1) kept) (pick b (set ys kept (get_or ys i d)) ys)
  unfolding pick
  turn false h =
      record {
        within = omega (arith, s.within);
        long = s.long;
        front = s.front ∙ sym (keep_no p d xs i l (ap p (sym same_at) ∙ h));
        back = back_next;
      }
  turn true h =
      let k : kept < length ys = omega (arith, s.within, s.long) in
      record {
        within = omega (arith, s.within);
        long = length-set ys kept (get_or ys i d) ∙ s.long;
        front =
            rw add-one (take-suc-set ys kept (get_or ys i d) k)
            ∙ ap (λ (r : List A). r ++ (get_or ys i d ∷ [])) s.front
            ∙ ap (λ (x : A). keep p (take i xs) ++ (x ∷ [])) same_at
            ∙ sym (keep_yes p d xs i l (ap p (sym same_at) ∙ h));
        back = drop_set ys kept (i + 1) (get_or ys i d) (omega (arith, s.within)) ∙ back_next;
      }

  pub sift_turn : (r : ℕ) (zs : List A) → r ≡ moved_to p d ys i kept → zs ≡ moved p d ys i kept → Sifted p xs (i + 1) r zs
  unfolding moved moved_to
  sift_turn r zs e f = rw (e, f) (turn (p (get_or ys i d)) refl)
