-- What stays of a list. Assumes nothing.
use Prim.Native.Nat.{ℕ}
use mathlib.Core.Path.{◌≡◌, refl, sym, ap, ap₂, subst, ◌∙◌}
use mathlib.Core.Bool.{Bool, true, false, not}
use mathlib.Core.List.{List, [], ◌∷◌, ◌++◌}
use lib.ListN.{take, drop, take-append-drop}
use Rattle.octets.proofs.Codecs.{All}
use Rattle.rules.specs.Choice.{any, keep}
use Rattle.rules.specs.Entry.{no_entry, entry_of, same_txn, among, without}
use Rattle.rules.specs.Log.{distinct}
use Rattle.rules.specs.declared.Entry.{Entry}
use Rattle.rules.proofs.Choice.{pick_true, pick_false, Pairs, all_map, all_cross, at_all, at_any, none_any, keep_append, pairs_keep, pairs_across}
use Rattle.rules.proofs.Order.{txn_same}
use Rattle.rules.proofs.Logs.{Apart, apart_turns, distinct_pairs, pairs_distinct}

module _ {A : Type 0} where
  -- all pass
  pub keep_all : (p : A → Bool) (xs : List A) → All (λ x. p x ≡ true) xs → keep p xs ≡ xs
  unfolding keep
  keep_all p [] a = refl
  keep_all p (x ∷ xs) a = pick_true (p x) (x ∷ keep p xs) (keep p xs) a.0 ∙ ap (λ (l : List A). x ∷ l) (keep_all p xs a.1)

  -- none passes
  keep_nothing : (p : A → Bool) (xs : List A) → All (λ x. p x ≡ false) xs → keep p xs ≡ []
  unfolding keep
  keep_nothing p [] a = refl
  keep_nothing p (x ∷ xs) a = pick_false (p x) (x ∷ keep p xs) (keep p xs) a.0 ∙ keep_nothing p xs a.1

-- no transaction stands twice in what stays
pub keep_distinct : (p : Entry → Bool) (es : List Entry) → distinct es ≡ true → distinct (keep p es) ≡ true
keep_distinct p es h = pairs_distinct (keep p es) (pairs_keep p Apart es (distinct_pairs es h))

-- none leaves
pub without_none : (es : List Entry) → without [] es ≡ es
unfolding any
without_none es = keep_all (λ e. not (among [] e)) es (at_all (λ e. not (among [] e) ≡ true) no_entry es (λ i l. refl))

-- where no transaction stands twice, those of the first k leave these alone
pub without_first : (k : ℕ) (es : List Entry) → distinct es ≡ true → without (take k es) es ≡ drop k es
without_first k es h =
    ap (without (take k es)) (sym (take-append-drop k es))
    ∙ keep_append stays (take k es) (drop k es)
    ∙ ap₂ (λ (xs ys : List Entry). xs ++ ys)
    (keep_nothing stays (take k es) (at_all (λ e. stays e ≡ false) no_entry (take k es) (λ i l. ap not (at_any (same_txn (entry_of (take k es) i)) no_entry (take k es) i l (txn_same (entry_of (take k es) i))))))
    (keep_all stays (drop k es) (all_map (λ e a. ap not (none_any (same_txn e) (take k es) a)) (drop k es) others))
  where
    stays : Entry → Bool
    stays e = not (among (take k es) e)

    others : All (λ e. All (λ d. same_txn e d ≡ false) (take k es)) (drop k es)
    others = all_cross Apart (drop k es) (take k es) (all_map (λ d a. all_map (λ e q. apart_turns d e q) (drop k es) a) (take k es) (pairs_across Apart (take k es) (drop k es) (subst (Pairs Apart) (sym (take-append-drop k es)) (distinct_pairs es h))))
