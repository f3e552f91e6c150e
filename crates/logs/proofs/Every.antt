-- What holds of every one of things in a row, by a search for the first of which it does not. Assumes nothing.
use Prim.Native.Nat.{ℕ, zero, suc, ◌+◌, ◌*◌, ◌≤◌, ◌<◌}
use mathlib.Core.Path.{◌≡◌, refl, sym, ap, ap₂, ◌∙◌}
use mathlib.Core.Bool.{Bool, true, false, ◌&&◌, ◌||◌, not, true≢false}
use mathlib.Core.List.{[], ◌∷◌}
use native.Mathlib.Decide.{dec_lt}
use native.Mathlib.Numerals.{add-one}
use native.Mathlib.Omega.{arith}
use lib.ListN.{length, get_or}
use lib.Dec.{eqb}
use borrow.Author.Tests.{eq-eqb, ne_eqb, not-true, not-false}
use Rattle.octets.specs.Bytes.{items}
use Rattle.octets.proofs.Codecs.{length_items, get_or_items}
use Rattle.rules.specs.Choice.{pick, every}
use Rattle.rules.proofs.Tests.{and_both, each, each_of, each_append, all_at, all_items}
use Rattle.repeats.specs.Repeat.{first_to}
use Rattle.repeats.proofs.Laws.{First, first_to_lem}

module _ {A : Type 0} (p : A → Bool) (f : ℕ → A) (k o : ℕ) where
  -- ---- a turn at a time
  pub every_start : every p (items f k o 0) ≡ true
  unfolding every items
  every_start = refl

  pub every_next : (i : ℕ) → every p (items f k o i) ≡ true → p (f (o + k * i)) ≡ true → every p (items f k o (i + 1)) ≡ true
  unfolding every items
  every_next i e h = rw (add-one i) (each_append p (items f k o i) (f (o + k * i) ∷ []) e (and_both (p (f (o + k * i))) true h refl))

  pub every_stop : (i n : ℕ) → i < n → p (f (o + k * i)) ≡ false → false ≡ every p (items f k o n)
  every_stop i n l h = go (every p (items f k o n)) refl
    where
      go : (t : Bool) → every p (items f k o n) ≡ t → false ≡ t
      go false e = refl
      go true e =
          let m : i < length (items f k o n) = rw (length_items f k o n) l in
          let q : p (get_or (items f k o n) i (f o)) ≡ true = all_at (λ x. p x ≡ true) (f o) (items f k o n) (each p (items f k o n) e) i m in
          absurd (true≢false (sym q ∙ ap p (get_or_items f k o n i (f o) l) ∙ h))

  pub every_end : (i n : ℕ) → every p (items f k o i) ≡ true → i ≤ n → n ≤ i → true ≡ every p (items f k o n)
  every_end i n e l h = let q : i ≡ n = omega arith in rw q at (sym e)

  -- ---- by what `all` says of the numbers below n
  pub every_by : (n : ℕ) (r : Bool) → (r ≡ true → (j : ℕ) → j < n → p (f (o + k * j)) ≡ true) → (r ≡ false → (j : ℕ) × (j < n) × (p (f (o + k * j)) ≡ false)) → r ≡ every p (items f k o n)
  every_by n true h g = sym (each_of p (items f k o n) (all_items (λ x. p x ≡ true) f k o n (λ i m. h refl i m)))
  every_by n false h g = let w = g refl in every_stop w.0 n w.1 w.2

  -- ---- by the first that fails
  pub every_first : (n r : ℕ) → r ≡ first_to (λ i. not (p (f (o + k * i)))) n → eqb r n ≡ every p (items f k o n)
  every_first n r q = go (dec_lt r n)
    where
      w : First (λ i. not (p (f (o + k * i)))) n r
      w = rw q (first_to_lem (λ i. not (p (f (o + k * i)))) n)

      go : Dec (r < n) → eqb r n ≡ every p (items f k o n)
      go (yes l) = ne_eqb r n (λ e. omega arith) ∙ every_stop r n l (not-true (p (f (o + k * r))) (w.at l))
      go (no l) =
          let e : r ≡ n = omega (arith, w.low) in
          eq-eqb r n e ∙ sym (each_of p (items f k o n) (all_items (λ x. p x ≡ true) f k o n (λ i m. not-false (p (f (o + k * i))) (w.before i (omega arith)))))

-- ---- by two tests

module _ (p : ℕ → Bool) where
  -- none of the first suc n passes where none of the first n does, nor the next
  pub none_next : (n : ℕ) → eqb (first_to p (suc n)) (suc n) ≡ (eqb (first_to p n) n && not (p n))
  unfolding first_to pick
  none_next n = go (eqb (first_to p n) n && not (p n)) refl
    where
      go : (t : Bool) → (eqb (first_to p n) n && not (p n)) ≡ t → eqb (pick t (suc n) (first_to p n)) (suc n) ≡ t
      go true e = eq-eqb (suc n) (suc n) refl
      go false e = ne_eqb (first_to p n) (suc n) (λ q. let l : first_to p n ≤ n = (first_to_lem p n).low in omega arith)

-- none passes either of two tests where none passes the one and none the other
pub first_or : (p q : ℕ → Bool) (n : ℕ) → eqb (first_to (λ i. p i || q i) n) n ≡ (eqb (first_to p n) n && eqb (first_to q n) n)
unfolding first_to
first_or p q zero = refl
first_or p q (suc n) =
    none_next (λ i. p i || q i) n
    ∙ ap (λ (t : Bool). t && not (p n || q n)) (first_or p q n)
    ∙ turn (eqb (first_to p n) n) (eqb (first_to q n) n) (p n) (q n)
    ∙ sym (ap₂ ◌&&◌ (none_next p n) (none_next q n))
  where
    turn : (a b x y : Bool) → ((a && b) && not (x || y)) ≡ ((a && not x) && (b && not y))
    turn true true true y = refl
    turn true true false y = refl
    turn true false true y = refl
    turn true false false y = refl
    turn false b x y = refl
