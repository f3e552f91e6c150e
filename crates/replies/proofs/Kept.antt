-- How many are kept, with one more. Assumes nothing.
use Prim.Native.Nat.{ℕ, zero, suc, ◌+◌, ◌*◌, ◌≤◌, ◌<◌}
use mathlib.Core.Path.{◌≡◌, sym, ap, ◌∙◌}
use mathlib.Core.Bool.{Bool, true≢false}
use mathlib.Core.Option.{Option, none, some}
use mathlib.Core.List.{List, [], ◌∷◌}
use native.Mathlib.Omega.{arith}
use lib.ListN.{length, get_or, set}
use Rattle.rules.specs.Choice.{pick, count, is_some}
use Rattle.rules.specs.State.{State, held}
use Rattle.rules.specs.Image.{reply_length, reply_at, at_replies}
use Rattle.rules.specs.declared.Shape.{Shape}
use Rattle.rules.proofs.Choice.{by_test, count_front}
use Rattle.rules.proofs.KeptLaws.{count_same}
use Rattle.places.specs.Layout.{start_of, Stands}
use Rattle.places.proofs.Sections.{stands_fits, stands_midway}
use Rattle.places.proofs.Kept.{reply_at_lem}

count_most : (p : ℕ → Bool) (n : ℕ) → count p n ≤ n
unfolding count
count_most p zero = omega arith
count_most p (suc n) = let h = count_most p n in by_test (λ (k : ℕ). k ≤ suc n) (p n) (λ t. omega arith) (λ f. omega arith)

pub counted_few : (p : ℕ → Bool) (n k : ℕ) → k ≡ count p n → k ≤ n
counted_few p n k e = rw e (count_most p n)

module _ {A : Type 0} where
  held_cons : (o : Option A) (xs : List (Option A)) → held (o ∷ xs) ≡ pick (is_some o) 1 0 + held xs
  held_cons o xs = count_front (λ i. is_some (get_or (o ∷ xs) i none)) (length xs)

  first_more : (o : Option A) (xs : List (Option A)) (x : A) → o ≡ none → held (some x ∷ xs) ≡ held (o ∷ xs) + 1
  unfolding pick
  first_more none xs x e = held_cons (some x) xs ∙ omega (arith, held_cons none xs)
  first_more (some y) xs x e = absurd (true≢false (ap is_some e))

  -- where none was kept, there is one more
  pub held_more : (xs : List (Option A)) (i : ℕ) (x : A) → i < length xs → get_or xs i none ≡ none → held (set xs i (some x)) ≡ held xs + 1
  unfolding pick
  held_more [] i x l e = absurd (omega arith)
  held_more (o ∷ xs) zero x l e = first_more o xs x e
  held_more (o ∷ xs) (suc i) x l e =
      held_cons o (set xs i (some x)) ∙ omega (arith, held_more xs i x (omega arith) e, held_cons o xs)

-- the replies of a good state
module _ {sh : Shape} {st : State} {b : List ℕ} (s : Stands sh st b) where
  pub held_counted : (k : ℕ) → k ≡ count (λ j. is_some (reply_at sh.c b (start_of sh at_replies + reply_length sh.c * j))) sh.s → k ≡ held st.change.replies
  held_counted k e =
      e ∙ count_same (λ j. is_some (get_or st.change.replies j none)) (λ j. is_some (reply_at sh.c b (start_of sh at_replies + reply_length sh.c * j))) sh.s (λ j l. ap is_some (reply_at_lem (stands_midway s) j l))
      ∙ ap (count (λ j. is_some (get_or st.change.replies j none))) (sym (stands_fits s).reply_places)
