-- The length of the next message: a law for each way through the function that gives it. Assumes nothing.
use Prim.Native.Nat.{ℕ, ◌≤◌, ◌<◌}
use mathlib.Core.Path.{◌≡◌, sym, ap, ap₂, subst, ◌∙◌}
use mathlib.Core.Bool.{Bool, true, false, ◌&&◌, not, and-false}
use mathlib.Core.List.{List}
use lib.ListN.{length}
use lib.Dec.{leb}
use borrow.Author.Tests.{not-true, not-false, le-leb, lt-leb}
use Rattle.octets.specs.Bytes.{num}
use Rattle.rules.specs.Choice.{pick}
use Rattle.rules.specs.Group.{sizes_fit}
use Rattle.rules.specs.Kind.{known}
use Rattle.rules.specs.Read.{entries_at, length_for, length_at}
use Rattle.rules.proofs.Tests.{and_both, pick_true, sizes}
use Rattle.readers.specs.Said.{next_length}

pub few_groups : (n s : ℕ) (fit : Bool) → fit ≡ sizes_fit n s → not fit ≡ false → s ≤ 8
few_groups n s fit e h = (sizes n s (sym e ∙ not-false fit h)).groups

module _ (n s : ℕ) (b : List ℕ) where
  pub wrong_sizes : (fit : Bool) → fit ≡ sizes_fit n s → not fit ≡ true → 0 ≡ next_length n s b
  unfolding next_length pick
  wrong_sizes fit e h = let g : sizes_fit n s ≡ false = sym e ∙ not-true fit h in simp g

  module _ (kind : ℕ) (k : kind ≡ num b 0 1) where
    pub no_kind : (is : Bool) → is ≡ known kind → not is ≡ true → 0 ≡ next_length n s b
    unfolding next_length pick
    no_kind is e h = let g : known (num b 0 1) ≡ false = ap known (sym k) ∙ sym e ∙ not-true is h in simp (g, and-false)

    module _ (at count len : ℕ) (a : at ≡ entries_at s kind) (c : count ≡ num b at 4) (l : len ≡ length_for s kind count) where
      length_is : len ≡ length_at s b
      length_is = l ∙ ap₂ (length_for s) k (c ∙ ap (λ (x : ℕ). num b x 4) (a ∙ ap (entries_at s) k))

      pub cut_short : length b < len → 0 ≡ next_length n s b
      unfolding next_length pick
      cut_short h =
          let g : leb (length_at s b) (length b) ≡ false = lt-leb (length_at s b) (length b) (subst (λ x. length b < x) length_is h) in
          simp (g, and-false)

      pub whole : (fit is : Bool) → fit ≡ sizes_fit n s → not fit ≡ false → is ≡ known kind → not is ≡ false → len ≤ length b → len ≡ next_length n s b
      unfolding next_length
      whole fit is ef hf ei hi h =
          let f : sizes_fit n s ≡ true = sym ef ∙ not-false fit hf in
          let i : known (num b 0 1) ≡ true = ap known (sym k) ∙ sym ei ∙ not-false is hi in
          let g : leb (length_at s b) (length b) ≡ true = le-leb (length_at s b) (length b) (subst (λ x. x ≤ length b) length_is h) in
          length_is
          ∙ sym (pick_true (sizes_fit n s && (known (num b 0 1) && leb (length_at s b) (length b))) (length_at s b) 0
          (and_both (sizes_fit n s) _ f (and_both (known (num b 0 1)) _ i g)))
