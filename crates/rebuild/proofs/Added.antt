-- Entries put in order into the table, one after the other. Assumes nothing.
use Prim.Native.Nat.{ℕ, ◌+◌, ◌≤◌, ◌<◌}
use mathlib.Core.Path.{◌≡◌, sym, ap, subst, ◌∙◌}
use mathlib.Core.Bool.{Bool, true, false, not}
use mathlib.Core.Option.{Option, none}
use mathlib.Core.List.{List, [], ◌∷◌, ◌++◌}
use native.Mathlib.Omega.{arith}
use native.Mathlib.Numerals.{add-one}
use lib.ListN.{length, get_or, take, drop, length-append, take-append-drop}
use lib.Seq.{take-suc, take_all}
use borrow.Author.Tests.{not-true, not-false}
use Rattle.octets.specs.Bytes.{num}
use Rattle.rules.specs.Choice.{pick, keep}
use Rattle.rules.specs.Entry.{no_entry, entry_of, place, place_all}
use Rattle.rules.specs.Image.{table_at}
use Rattle.rules.specs.State.{Vote}
use Rattle.rules.specs.declared.Entry.{Entry}
use Rattle.rules.proofs.Choice.{pick_true, pick_false, keep_append}
use Rattle.rules.proofs.Order.{Sorted, placed_append, placed_sorted}
use Rattle.entries.specs.Table.{Holds, Table}
use Rattle.entries.proofs.Table.{decoded}
use Rattle.entries.proofs.Sorting.{length_placed}
use Rattle.entries.proofs.Sifting.{keep_last}
use Rattle.ballots.specs.Ballots.{vote_of, counts_at}
use Rattle.rebuild.specs.Rebuild.{is_new, new_from, Adds}

-- the table is sorted where what it held was
pub sorted_on : (c : ℕ) (ds xs : List Entry) (t : List ℕ) → Sorted ds → Holds c (place_all ds xs) t → Sorted (table_at c t 0)
sorted_on c ds xs t s h = rw (decoded c (place_all ds xs) t h) (placed_sorted ds xs s)

-- ---- one entry

module _ (c : ℕ) (e : Entry) (new ok : Bool) (f : ok ≡ new) where
  pub entry_passed : (t : List ℕ) → Table c t → not ok ≡ true → Adds c (table_at c t 0) (pick new (e ∷ []) []) t true
  unfolding place_all Adds
  entry_passed t k h = rw (pick_false new (e ∷ []) [] (sym f ∙ not-true ok h)) k

  pub entry_full : (t u : List ℕ) (n : ℕ) → Table c t → not ok ≡ false → n ≡ num t 0 4 → c ≤ n → Adds c (table_at c t 0) (pick new (e ∷ []) []) u false
  unfolding Adds
  entry_full t u n k h q l = let z = k.count in rw (pick_true new (e ∷ []) [] (sym f ∙ not-false ok h)) (omega arith)

  pub entry_added : (t u : List ℕ) → not ok ≡ false → Holds c (place e (table_at c t 0)) u → Adds c (table_at c t 0) (pick new (e ∷ []) []) u true
  unfolding place_all Adds
  entry_added t u h k = rw (pick_true new (e ∷ []) [] (sym f ∙ not-false ok h)) k

-- what is told of the test is what it says
pub as_new : (c : ℕ) (es : List Entry) (e : Entry) (u : List ℕ) (ok new : Bool) {said : Bool} → said ≡ new → Adds c es (pick said (e ∷ []) []) u ok → Adds c es (pick new (e ∷ []) []) u ok
as_new c es e u ok new f a = subst (λ (t : Bool). Adds c es (pick t (e ∷ []) []) u ok) f a

-- ---- the entries of a log

module _ (c : ℕ) (es : List Entry) (p : Entry → Bool) (log : List Entry) where
  pub log_start : (t : List ℕ) → Holds c es t → Holds c (place_all es (keep p (take 0 log))) t
  unfolding place_all keep
  log_start t k = k

  one_more : (i : ℕ) (e : Entry) → i < length log → e ≡ entry_of log i → keep p (take (i + 1) log) ≡ keep p (take i log) ++ pick (p e) (e ∷ []) []
  one_more i e h q = rw (add-one i, q) (ap (keep p) (take-suc log i no_entry h) ∙ keep_last p (take i log) (entry_of log i))

  module _ (i : ℕ) (e : Entry) (t u : List ℕ) (k : Holds c (place_all es (keep p (take i log))) t) (h : i < length log) (q : e ≡ entry_of log i) (ok : Bool) (a : Adds c (table_at c t 0) (pick (p e) (e ∷ []) []) u ok) where
    pub log_turn : not ok ≡ false → Holds c (place_all es (keep p (take (i + 1) log))) u
    unfolding Adds
    log_turn f =
        let b : Adds c (table_at c t 0) (pick (p e) (e ∷ []) []) u true = subst (Adds c (table_at c t 0) (pick (p e) (e ∷ []) []) u) (not-false ok f) a in
        let d : Holds c (place_all (place_all es (keep p (take i log))) (pick (p e) (e ∷ []) [])) u = subst (λ (x : List Entry). Holds c (place_all x (pick (p e) (e ∷ []) [])) u) (decoded c _ t k) b in
        subst (λ (x : List Entry). Holds c x u) (sym (ap (place_all es) (one_more i e h q) ∙ placed_append es (keep p (take i log)) _)) d

    pub log_stop : not ok ≡ true → c < length es + length (keep p log)
    unfolding Adds
    log_stop f =
        let b : Adds c (table_at c t 0) (pick (p e) (e ∷ []) []) u false = subst (Adds c (table_at c t 0) (pick (p e) (e ∷ []) []) u) (not-true ok f) a in
        let l : length (table_at c t 0) ≡ length es + length (keep p (take i log)) = ap length (decoded c _ t k) ∙ length_placed es (keep p (take i log)) in
        let m : length (keep p (take (i + 1) log)) ≡ length (keep p (take i log)) + length (pick (p e) (e ∷ []) []) = ap length (one_more i e h q) ∙ length-append (keep p (take i log)) _ in
        let w : length (keep p log) ≡ length (keep p (take (i + 1) log)) + length (keep p (drop (i + 1) log)) =
        ap (λ (x : List Entry). length (keep p x)) (sym (take-append-drop (i + 1) log)) ∙ ap length (keep_append p (take (i + 1) log) (drop (i + 1) log)) ∙ length-append (keep p (take (i + 1) log)) _ in
        omega arith

  pub log_end : (i : ℕ) (t : List ℕ) → length log ≤ i → Holds c (place_all es (keep p (take i log))) t → Holds c (place_all es (keep p log)) t
  log_end i t h k = rw (take_all i log h) at k

-- ---- of the vote of a replica

module _ (n top : ℕ) (vs : List (Option Vote)) (r : ℕ) (b : Bool) (q : b ≡ counts_at top (get_or vs r none)) where
  pub from_none : not b ≡ true → new_from n top vs r ≡ []
  unfolding new_from
  from_none h = pick_false (counts_at top (get_or vs r none)) _ [] (sym q ∙ not-true b h)

  pub from_log : not b ≡ false → new_from n top vs r ≡ keep (is_new n top vs r) (vote_of (get_or vs r none)).log
  unfolding new_from
  from_log h = pick_true (counts_at top (get_or vs r none)) _ [] (sym q ∙ not-false b h)

  pub from_passed : (c : ℕ) (t : List ℕ) → Table c t → not b ≡ true → Adds c (table_at c t 0) (new_from n top vs r) t true
  unfolding place_all Adds
  from_passed c t k h = rw (from_none h) k

  pub from_stopped : (c : ℕ) (es : List Entry) (u : List ℕ) → not b ≡ false → c < length es + length (keep (is_new n top vs r) (vote_of (get_or vs r none)).log) → Adds c es (new_from n top vs r) u false
  unfolding Adds
  from_stopped c es u h k = rw (from_log h) k

  pub from_added : (c : ℕ) (es : List Entry) (u : List ℕ) → not b ≡ false → Holds c (place_all es (keep (is_new n top vs r) (vote_of (get_or vs r none)).log)) u → Adds c es (new_from n top vs r) u true
  unfolding Adds
  from_added c es u h k = rw (from_log h) k
