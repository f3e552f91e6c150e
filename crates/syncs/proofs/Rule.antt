-- What is chosen, by the words of the rule. Assumes nothing.
use Prim.Native.Nat.{◌+◌}
use mathlib.Core.Path.{◌≡◌, refl, sym, ap, ◌∙◌}
use mathlib.Core.Bool.{Bool, true, false, ◌&&◌, not}
use mathlib.Core.List.{List, [], ◌∷◌, ◌++◌}
use lib.ListN.{length, length-append}
use Rattle.rules.specs.Choice.{pick, keep}
use Rattle.rules.specs.Entry.{among}
use Rattle.rules.specs.Log.{last_of, follows_last}
use Rattle.rules.specs.State.{State}
use Rattle.rules.specs.Early.{stays_early, falls_late}
use Rattle.rules.specs.declared.Entry.{Entry}
use Rattle.early.specs.Listed.{placed, chosen}
use Rattle.early.specs.declared.Which.TheVariants.{Any, After, NotAfter}
use Rattle.early.proofs.Entries.{without_is}
use Rattle.syncs.specs.Takes.{late_by}

module _ {A : Type 0} where
  twice_step : (r : A → Bool) (x : A) (ys : List A) (b : Bool) → pick (r x && b) (x ∷ keep r ys) (keep r ys) ≡ keep r (pick b (x ∷ ys) ys)
  unfolding keep pick
  twice_step r x ys true = go (r x)
    where
      go : (a : Bool) → pick (a && true) (x ∷ keep r ys) (keep r ys) ≡ pick a (x ∷ keep r ys) (keep r ys)
      go true = refl
      go false = refl
  twice_step r x ys false = go (r x)
    where
      go : (a : Bool) → pick (a && false) (x ∷ keep r ys) (keep r ys) ≡ keep r ys
      go true = refl
      go false = refl

  -- by two tests one after the other
  keep_twice : (p q r : A → Bool) → ((x : A) → p x ≡ (r x && q x)) → (xs : List A) → keep p xs ≡ keep r (keep q xs)
  unfolding keep
  keep_twice p q r h [] = refl
  keep_twice p q r h (x ∷ xs) = rw (h x, keep_twice p q r h xs) (twice_step r x (keep q xs) (q x))

module _ (log es : List Entry) where
  pub stays_is : keep (chosen log (After (last_of log))) es ≡ stays_early log es
  unfolding chosen placed
  stays_is = keep_twice (chosen log (After (last_of log))) (λ e. not (among log e)) (follows_last log) (λ e. refl) es

  pub falls_is : keep (chosen log (NotAfter (last_of log))) es ≡ falls_late log es
  unfolding chosen placed
  falls_is = keep_twice (chosen log (NotAfter (last_of log))) (λ e. not (among log e)) (λ e. not (follows_last log e)) (λ e. refl) es

module _ (st : State) (log : List Entry) where
  pub late_is : keep (chosen log Any) st.waiting.late ++ keep (chosen log (NotAfter (last_of log))) st.waiting.early ≡ late_by st log
  unfolding late_by
  late_is = rw (without_is log st.waiting.late, falls_is log st.waiting.early)

  pub late_long : length (keep (chosen log Any) st.waiting.late) + length (keep (chosen log (NotAfter (last_of log))) st.waiting.early) ≡ length (late_by st log)
  late_long = sym (length-append (keep (chosen log Any) st.waiting.late) (keep (chosen log (NotAfter (last_of log))) st.waiting.early)) ∙ ap length late_is
