-- One thing more at the end of a list of which those that pass a test are kept. Assumes nothing.
use mathlib.Core.Path.{◌≡◌, refl, ap}
use mathlib.Core.Bool.{Bool, true, false}
use mathlib.Core.List.{List, [], ◌∷◌, ◌++◌}
use Rattle.rules.specs.Choice.{pick, keep}

module _ {A : Type 0} where
  pub keep_last : (p : A → Bool) (xs : List A) (x : A) → keep p (xs ++ (x ∷ [])) ≡ keep p xs ++ pick (p x) (x ∷ []) []
  unfolding keep pick
  keep_last p [] x = refl
  keep_last p (y ∷ xs) x = go (p y) (keep_last p xs x)
    where
      go : (b : Bool) → keep p (xs ++ (x ∷ [])) ≡ keep p xs ++ pick (p x) (x ∷ []) []
          → pick b (y ∷ keep p (xs ++ (x ∷ []))) (keep p (xs ++ (x ∷ []))) ≡ pick b (y ∷ keep p xs) (keep p xs) ++ pick (p x) (x ∷ []) []
      go true h = ap (λ (r : List A). y ∷ r) h
      go false h = h
