-- The votes that count, one replica more at a time: the greatest last normal gView and the best vote. Assumes nothing.
use Prim.Native.Nat.{ℕ, ◌+◌, ◌≤◌, ◌<◌, max}
use mathlib.Core.Path.{◌≡◌, refl, sym, ap, ◌∙◌}
use mathlib.Core.Bool.{Bool, true, false, ◌&&◌}
use mathlib.Core.Option.{Option, none, some}
use Rattle.std.specs.Prelude as rust
use Rattle.std.specs.Prelude.{Some, None, MatchOption}
use mathlib.Core.List.{List, [], ◌∷◌, ◌++◌}
use native.Mathlib.Omega.{arith}
use native.Mathlib.Numerals.{add-one}
use lib.ListN.{length, get_or, take}
use lib.Seq.{take-suc, take_all}
use lib.Dec.{eqb, ltb}
use borrow.Author.Tests.{ltb-true}
use Rattle.rules.specs.Choice.{pick, is_some}
use Rattle.rules.specs.State.{Vote}
use Rattle.rules.specs.Rebuild.{top_from, with_normal, best_from, best}
use Rattle.rules.proofs.Choice.{by_test, by_cases}
use Rattle.rules.proofs.Rebuilt.{counting_rising}
use Rattle.ballots.specs.Ballots.{vote_of, counts_at, ballot_in, Tells, sync_of, better_of, BestTo}
use Rattle.ballots.specs.declared.Ballot.{Ballot}
use Rattle.ballots.specs.declared.Best.{Best}

-- ---- one vote more

next : (vs : List (Option Vote)) (r : ℕ) → r < length vs → take (r + 1) vs ≡ take r vs ++ (get_or vs r none ∷ [])
next vs r h = rw add-one (take-suc vs r none h)

-- a vote alone
alone : (top : ℕ) (x : Option Vote) → with_normal top (x ∷ []) ≡ pick (counts_at top x) (vote_of x ∷ []) []
unfolding with_normal pick counts_at vote_of
alone top none = refl
alone top (some v) = refl

pub lower_next : (top : ℕ) (vs : List (Option Vote)) (r : ℕ) → r < length vs → with_normal top (take (r + 1) vs) ≡ with_normal top (take r vs) ++ pick (counts_at top (get_or vs r none)) (vote_of (get_or vs r none) ∷ []) []
lower_next top vs r h =
    ap (with_normal top) (next vs r h)
    ∙ counting_rising top (take r vs) (get_or vs r none ∷ [])
    ∙ ap (λ (l : List Vote). with_normal top (take r vs) ++ l) (alone top (get_or vs r none))

pub lower_all : (top : ℕ) (vs : List (Option Vote)) (r : ℕ) → length vs ≤ r → with_normal top (take r vs) ≡ with_normal top vs
lower_all top vs r h = ap (with_normal top) (take_all r vs h)

-- ---- what is told of a vote

pub none_told : (x : Option Vote) → Tells x None → x ≡ none
unfolding ballot_in
none_told none h = refl
none_told (some v) h = cc

pub some_told : (x : Option Vote) (t : Ballot) → Tells x (Some t) → (v : Vote) × (x ≡ some v) × (t ≡ record { normal = v.normal; sync = v.sync })
unfolding ballot_in
some_told none t h = cc
some_told (some v) t h = (v, refl, cc)

-- whether it counts, by the test of what is told
pub counts_told : (top : ℕ) (x : Option Vote) (t : rust.Option Ballot) (r : Bool) → Tells x t → MatchOption t (r ≡ false) (λ b. r ≡ eqb b.normal top) → r ≡ counts_at top x
unfolding counts_at ballot_in
counts_told top none t r h m = rw h at m
counts_told top (some v) t r h m = rw h at m

-- ---- the greatest last normal gView

top_append : (t : ℕ) (xs ys : List (Option Vote)) → top_from t (xs ++ ys) ≡ top_from (top_from t xs) ys
unfolding top_from
top_append t [] ys = refl
top_append t (none ∷ xs) ys = top_append t xs ys
top_append t (some v ∷ xs) ys = top_append (max t v.normal) xs ys

pub top_start : 0 ≡ top_from 0 []
unfolding top_from
top_start = refl

module _ (vs : List (Option Vote)) (n r top : ℕ) (l : length vs ≡ n) (h : r < n) (e : top ≡ top_from 0 (take r vs)) where
  top_is : top_from 0 (take (r + 1) vs) ≡ top_from top (get_or vs r none ∷ [])
  top_is = ap (top_from 0) (next vs r (omega arith)) ∙ top_append 0 (take r vs) (get_or vs r none ∷ []) ∙ ap (λ (m : ℕ). top_from m (get_or vs r none ∷ [])) (sym e)

  pub top_same : Tells (get_or vs r none) None → top ≡ top_from 0 (take (r + 1) vs)
  unfolding top_from
  top_same k = sym (top_is ∙ ap (λ (x : Option Vote). top_from top (x ∷ [])) (none_told (get_or vs r none) k))

  pub top_next : (t : Ballot) → Tells (get_or vs r none) (Some t) → max top t.normal ≡ top_from 0 (take (r + 1) vs)
  unfolding top_from
  top_next t k =
      let v = some_told (get_or vs r none) t k in
      rw v.2 (sym (top_is ∙ ap (λ (x : Option Vote). top_from top (x ∷ [])) v.1))

pub top_end : (vs : List (Option Vote)) (n r top : ℕ) → length vs ≡ n → n ≤ r → top ≡ top_from 0 (take r vs) → top ≡ top_from 0 vs
top_end vs n r top l h e = e ∙ ap (top_from 0) (take_all r vs (omega arith))

-- ---- the best vote

best_append : (u : Vote) (xs ys : List Vote) → best_from u (xs ++ ys) ≡ best_from (best_from u xs) ys
unfolding best_from
best_append u [] ys = refl
best_append u (v ∷ xs) ys = best_append (pick (ltb u.sync v.sync) v u) xs ys

-- the sync point so far, by the test of it
sync_told : (x : rust.Option Best) (m : ℕ) → MatchOption x (m ≡ 0) (λ b. m ≡ b.sync) → m ≡ sync_of x
sync_told None m h = h
sync_told (Some b) m h = h

pub better_none : (top r : ℕ) (x : rust.Option Best) (t : rust.Option Ballot) → t ≡ None → x ≡ better_of top x r t
unfolding better_of
better_none top r x t e = rw e

module _ (top r m : ℕ) (x : rust.Option Best) (o : rust.Option Ballot) (t : Ballot) (e : o ≡ Some t) (h : MatchOption x (m ≡ 0) (λ b. m ≡ b.sync)) where
  pub better_more : (eqb t.normal top && ltb m t.sync) ≡ true → Some (record { replica = r; sync = t.sync }) ≡ better_of top x r o
  unfolding better_of pick
  better_more q = rw (e, ← sync_told x m h, q)

  pub better_same : (eqb t.normal top && ltb m t.sync) ≡ false → x ≡ better_of top x r o
  unfolding better_of pick
  better_same q = rw (e, ← sync_told x m h, q)

pub best_start : (n top : ℕ) (vs : List (Option Vote)) → BestTo n vs top 0 None
unfolding with_normal best_from vote_of
best_start n top vs = refl

module _ (n : ℕ) (vs : List (Option Vote)) (top r : ℕ) where
  -- the best vote so far
  abbrev standing : rust.Option Best → Vote
  standing None = vote_of none
  standing (Some b) = vote_of (get_or vs b.replica none)

  standing_is : (x : rust.Option Best) → BestTo n vs top r x → best (with_normal top (take r vs)) ≡ standing x
  unfolding vote_of
  standing_is None k = k
  standing_is (Some b) k = k.is

  standing_sync : (x : rust.Option Best) → BestTo n vs top r x → sync_of x ≡ (standing x).sync
  unfolding vote_of
  standing_sync None k = refl
  standing_sync (Some b) k = k.sync

  -- the vote of replica r is no better
  stays : (x : rust.Option Best) → BestTo n vs top r x → best (with_normal top (take (r + 1) vs)) ≡ standing x → BestTo n vs top (r + 1) x
  unfolding vote_of
  stays None k e = e
  stays (Some b) k e = record { is = e; sync = k.sync; within = k.within; held = k.held; some = k.some }

  module _ (x : rust.Option Best) (l : length vs ≡ n) (h : r < n) (k : BestTo n vs top r x) where
    best_is : best (with_normal top (take (r + 1) vs)) ≡ best_from (standing x) (pick (counts_at top (get_or vs r none)) (vote_of (get_or vs r none) ∷ []) [])
    best_is =
        ap best (lower_next top vs r (omega arith))
        ∙ best_append _ (with_normal top (take r vs)) _
        ∙ ap (λ (u : Vote). best_from u (pick (counts_at top (get_or vs r none)) (vote_of (get_or vs r none) ∷ []) [])) (standing_is x k)

    pub best_next : (y : Option Vote) (t : rust.Option Ballot) → get_or vs r none ≡ y → Tells y t → BestTo n vs top (r + 1) (better_of top x r t)
    unfolding counts_at vote_of ballot_in better_of best_from pick
    best_next none t e f = rw f (stays x k (rw e at best_is))
    best_next (some v) t e f =
        let m : best (with_normal top (take (r + 1) vs)) ≡ best_from (standing x) (pick (eqb v.normal top) (v ∷ []) []) = rw e at best_is in
        rw f
        (by_cases (eqb v.normal top)
        (λ p.
        rw p
        (by_test (BestTo n vs top (r + 1)) (ltb (sync_of x) v.sync)
        (λ q.
        record {
          is = m ∙ rw (p, ← standing_sync x k, q, e);
          sync = rw e;
          within = h;
          held = ap is_some e;
          some = omega (arith, ltb-true (sync_of x) v.sync q);
        })
        (λ q. stays x k (m ∙ rw (p, ← standing_sync x k, q)))))
        (λ p. rw p (stays x k (m ∙ rw p))))

pub best_end : (n : ℕ) (vs : List (Option Vote)) (top r : ℕ) (x : rust.Option Best) → r ≤ n → n ≤ r → BestTo n vs top r x → BestTo n vs top n x
best_end n vs top r x g h k = let e : r ≡ n = omega arith in rw e at k
