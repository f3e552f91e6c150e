-- How many votes there are, with one more. Assumes nothing.
use Prim.Native.Nat.{ℕ, zero, suc, ◌+◌, ◌*◌, ◌≤◌, ◌<◌}
use mathlib.Core.Path.{◌≡◌, refl, sym, ap, ◌∙◌}
use mathlib.Core.Bool.{Bool, true, false, ◌&&◌, not}
use mathlib.Core.Option.{Option, none, some}
use mathlib.Core.List.{List}
use native.Mathlib.Omega.{arith}
use lib.ListN.{length, get_or, set, replicate, length-set, length-replicate, get_or-replicate}
use lib.Seq.{get_or-set_same, get_or-set_other}
use lib.Dec.{eqb}
use borrow.Author.Tests.{eqb-true, eqb-false}
use Rattle.rules.specs.Choice.{pick, count, is_some}
use Rattle.rules.specs.State.{Vote, held}
use Rattle.rules.specs.Image.{vote_length, vote_at, state_of, at_votes}
use Rattle.rules.specs.declared.Shape.{Shape}
use Rattle.rules.proofs.Choice.{by_test, by_cases, pick_true, pick_false}
use Rattle.rules.proofs.Choice.{count_none}
use Rattle.rules.proofs.KeptLaws.{count_same}
use Rattle.places.specs.Layout.{start_of}
use Rattle.places.proofs.Sections.{stands_midway}
use Rattle.places.proofs.Kept.{vote_at_lem, votes_held}
use Rattle.ballots.specs.Ballots.{Sent}
use Rattle.ballots.specs.declared.Cast.{Cast}
use Rattle.votes.specs.Votes.{is_second, count_with}

-- no more pass than are tested
count_most : (p : ℕ → Bool) (n : ℕ) → count p n ≤ n
unfolding count
count_most p zero = omega arith
count_most p (suc n) = let h = count_most p n in by_test (λ (x : ℕ). x ≤ suc n) (p n) (λ t. omega arith) (λ t. omega arith)

-- a test that passes at one place more
count_more : (p q : ℕ → Bool) (i : ℕ) → ((j : ℕ) → (j ≡ i → ⊥) → q j ≡ p j) → p i ≡ false → q i ≡ true → (n : ℕ) → i < n → count q n ≡ suc (count p n)
unfolding count
count_more p q i h a b zero l = absurd (omega arith)
count_more p q i h a b (suc n) l =
    by_cases (eqb n i)
    (λ t.
    let e : n ≡ i = eqb-true n i t in
    let z : count q n ≡ count p n = count_same p q n (λ j m. h j (omega arith)) in
    pick_true (q n) _ _ (ap q e ∙ b) ∙ ap suc z ∙ ap suc (sym (pick_false (p n) _ _ (ap p e ∙ a))))
    (λ f.
    let d = eqb-false n i f in
    let r : count q n ≡ suc (count p n) = count_more p q i h a b n (omega arith) in
    rw (h n d, r) (both (p n) (count p n)))
  where
    both : (t : Bool) (x : ℕ) → pick t (suc (suc x)) (suc x) ≡ suc (pick t (suc x) x)
    both t x = by_test (λ (y : ℕ). pick t (suc (suc x)) (suc x) ≡ suc y) t (λ e. pick_true t _ _ e) (λ e. pick_false t _ _ e)

module _ {A : Type 0} where
  -- one is kept at a free place
  pub held_more : (xs : List (Option A)) (i : ℕ) (x : A) → i < length xs → is_some (get_or xs i none) ≡ false → held (set xs i (some x)) ≡ held xs + 1
  held_more xs i x l f =
      rw (length-set xs i (some x))
      (count_more (λ j. is_some (get_or xs j none)) (λ j. is_some (get_or (set xs i (some x)) j none)) i
      (λ j h. ap is_some (get_or-set_other xs i j (some x) none h)) f (ap is_some (get_or-set_same xs i (some x) none l)) (length xs) l ∙ omega arith)

-- none is kept
pub held_none : (n : ℕ) → held (replicate {A = Option Vote} n none) ≡ 0
held_none n =
    rw (length-replicate {A = Option Vote} n none)
    (count_same (λ j. false) (λ j. is_some (get_or (replicate {A = Option Vote} n none) j none)) n (λ j l. ap is_some (get_or-replicate {A = Option Vote} n j none none l)) ∙ count_none (λ j. false) (λ j. refl) n)

-- ---- as they are read

module _ (sh : Shape) (b : List ℕ) (k : Cast) where
  pub count_entering : k.entering ≡ true → 2 ≡ count_with sh b k
  count_entering e = sym (pick_true k.entering 2 (held (state_of sh b).change.votes + 1) e)

  module _ (g : Sent sh b k) where
    pub second_kept : (t : Bool) → t ≡ is_some (vote_at sh.c b (start_of sh at_votes + vote_length sh.c * k.sender)) → (not k.entering && t) ≡ is_second sh b k
    second_kept t e = ap (λ (x : Bool). not k.entering && x) (e ∙ ap is_some (vote_at_lem (stands_midway g.stands) k.sender g.sender))

    module _ (m : ℕ) (e : m ≡ count (λ r. is_some (vote_at sh.c b (start_of sh at_votes + vote_length sh.c * r))) sh.n) where
      pub count_small : m ≤ 7
      count_small = omega (arith, count_most (λ r. is_some (vote_at sh.c b (start_of sh at_votes + vote_length sh.c * r))) sh.n, g.stands.fits.most)

      pub count_kept : k.entering ≡ false → m + 1 ≡ count_with sh b k
      count_kept f = ap (λ (x : ℕ). x + 1) (e ∙ votes_held (stands_midway g.stands)) ∙ sym (pick_false k.entering 2 (held (state_of sh b).change.votes + 1) f)
