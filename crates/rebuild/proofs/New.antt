-- What is added: the tests of one entry, one after the other. Assumes nothing.
use Prim.Native.Nat.{ℕ, ◌+◌, ◌*◌, ◌≤◌, ◌<◌}
use mathlib.Core.Path.{◌≡◌, refl, sym, ap, ◌∙◌}
use mathlib.Core.Bool.{Bool, true, false, ◌&&◌, not}
use mathlib.Core.Option.{Option, none}
use mathlib.Core.List.{List, []}
use native.Mathlib.Decide.{dec_lt}
use native.Mathlib.Omega.{arith}
use lib.ListN.{length, get_or, take}
use lib.Dec.{eqb, ltb, leb}
use borrow.Author.Tests.{le-ltb, le-leb, lt-leb, eq-eqb, eqb-true, not-true, not-false}
use Rattle.octets.specs.Bytes.{num}
use Rattle.rules.specs.Choice.{any}
use Rattle.rules.specs.Group.{recovery}
use Rattle.rules.specs.Entry.{same_txn, among, before}
use Rattle.rules.specs.Read.{entry_at}
use Rattle.rules.specs.State.{Vote}
use Rattle.rules.specs.Log.{follows_last}
use Rattle.rules.specs.Rebuild.{with_normal, best, prefix, holders, is_added}
use Rattle.rules.specs.declared.Entry.{Entry}
use Rattle.rules.specs.declared.Shape.{Shape}
use Rattle.repeats.specs.Repeat.{first_to}
use Rattle.repeats.proofs.Laws.{First, first_to_lem, first_is}
use Rattle.entries.specs.First.{find_row}
use Rattle.entries.proofs.First.{read_among}
use Rattle.ballots.specs.Ballots.{votes_in, vote_of, Given, Lists, BestIn}
use Rattle.rebuild.specs.Rebuild.{Based, lower, is_new}
use Rattle.rebuild.specs.declared.Basis.{Basis}
use Rattle.ballots.specs.declared.Best.{Best}
use Rattle.ballots.specs.declared.Cast.{Cast}
use Rattle.std.specs.Prelude.{Some, None}
use Rattle.ballots.proofs.Votes.{votes_long}
use Rattle.ballots.proofs.Counting.{lower_all}
use Rattle.ballots.proofs.Sound.{vote_synced}
use Rattle.rebuild.proofs.Holders.{listed_take}

-- ---- the prefix

-- the first of n numbers that passes is below m where the first of m numbers is
first_within : (p : ℕ → Bool) (m n : ℕ) → m ≤ n → ltb (first_to p n) m ≡ ltb (first_to p m) m
first_within p m n h = go (dec_lt (first_to p n) m)
  where
    f : First p n (first_to p n)
    f = first_to_lem p n

    go : Dec (first_to p n < m) → ltb (first_to p n) m ≡ ltb (first_to p m) m
    go (yes l) = ap (λ (i : ℕ). ltb i m) (sym (first_is p m (first_to p n) (record { low = omega arith; before = f.before; at = λ _. f.at (omega arith) })))
    go (no l) =
        let e : first_to p m ≡ m = first_is p m m (record { low = omega arith; before = λ i k. f.before i (omega (arith, l)); at = λ k. absurd (omega arith) }) in
        le-ltb (first_to p n) m (omega (arith, l)) ∙ sym (le-ltb (first_to p m) m (omega arith))

pub prefix_by : (vs : List Vote) (v : Vote) (m : ℕ) → best vs ≡ v → m ≡ v.sync → prefix vs ≡ take m v.log
unfolding prefix
prefix_by vs v m e q = ap (λ (u : Vote). take u.sync u.log) e ∙ ap (λ (i : ℕ). take i v.log) (sym q)

module _ (n : ℕ) (vs : List (Option Vote)) (top : ℕ) (l : length vs ≡ n) where
  by_all : {v : Vote} → best (with_normal top (take n vs)) ≡ v → best (with_normal top vs) ≡ v
  by_all e = ap best (sym (lower_all top vs n (omega arith))) ∙ e

  -- no vote gives one
  pub prefix_none : best (with_normal top (take n vs)) ≡ vote_of none → prefix (with_normal top vs) ≡ []
  unfolding vote_of
  prefix_none e = prefix_by (with_normal top vs) (vote_of none) 0 (by_all e) refl

  pub prefix_is : (b : Best) → BestIn n vs top n b → prefix (with_normal top vs) ≡ take b.sync (vote_of (get_or vs b.replica none)).log
  prefix_is b k = prefix_by (with_normal top vs) (vote_of (get_or vs b.replica none)) b.sync (by_all k.is) k.sync

-- the vote that gives it
pub best_in : (n : ℕ) (vs : List (Option Vote)) (b : Basis) → Based n vs b → (x : Best) → b.best ≡ Some x → BestIn n vs b.count.top n x
best_in n vs b k x e = rw e at k.best

module _ (sh : Shape) (s msg : List ℕ) (a : Cast) (g : Given sh s msg a) (b : Basis) (k : Based sh.n (votes_in sh s msg a) b) where
  pub prefix_missing : (e : Entry) → b.best ≡ None → false ≡ among (prefix (with_normal b.count.top (votes_in sh s msg a))) e
  unfolding any
  prefix_missing e h = sym (ap (λ (es : List Entry). among es e) (prefix_none sh.n (votes_in sh s msg a) b.count.top (votes_long sh s msg a g.sent) (rw h at k.best)))

  module _ (x : Best) (h : b.best ≡ Some x) where
    abbrev gives : BestIn sh.n (votes_in sh s msg a) b.count.top sh.n x
    gives = best_in sh.n (votes_in sh s msg a) b k x h

    pub prefix_within : x.sync ≤ length (vote_of (get_or (votes_in sh s msg a) x.replica none)).log
    prefix_within = rw gives.sync (vote_synced sh s msg a g x.replica gives.within gives.held)

    -- the first in all of the log is one of the prefix where there is one
    pub prefix_found : (e : Entry) (t : List ℕ) (n i : ℕ) → Lists sh.c (vote_of (get_or (votes_in sh s msg a) x.replica none)).log t → n ≡ num t 0 4 → i ≡ find_row (λ j. entry_at t (4 + 24 * j)) e.request e.coordinator n → ltb i x.sync ≡ among (prefix (with_normal b.count.top (votes_in sh s msg a))) e
    prefix_found e t n i l q f =
        let w = prefix_within in
        let p : ℕ → Bool = λ j. same_txn e (entry_at t (4 + 24 * j)) in
        ap (λ (j : ℕ). ltb j x.sync) f
        ∙ first_within p x.sync n (omega (arith, l.count))
        ∙ read_among t 4 e x.sync (first_to p x.sync) refl
        ∙ ap (λ (es : List Entry). among es e) (listed_take sh.c _ t l x.sync prefix_within ∙ sym (prefix_is sh.n (votes_in sh s msg a) b.count.top (votes_long sh s msg a g.sent) x gives))

-- ---- the tests of an entry

module _ (n : ℕ) (vs : List (Option Vote)) (b : Basis) (k : Based n vs b) (r : ℕ) (e : Entry) where
  abbrev ws : List Vote
  ws = with_normal b.count.top vs

  first_fails : (x y z : Bool) → x ≡ false → false ≡ ((x && y) && z)
  first_fails x y z h = rw h

  -- what was found of the entry after the last, said of the prefix
  follows_by : (t : Bool) → t ≡ before b.last e → follows_last (prefix ws) e ≡ t
  follows_by t q = sym (q ∙ ap (λ (x : Entry). before x e) k.last)

  pub new_late : (t : Bool) → t ≡ before b.last e → not t ≡ true → false ≡ is_new n b.count.top vs r e
  unfolding is_new
  new_late t q h = first_fails (follows_last (prefix ws) e) _ _ (follows_by t q ∙ not-true t h)

  last_fails : (x z : Bool) → z ≡ false → false ≡ (x && z)
  last_fails true z h = sym h
  last_fails false z h = refl

  pub new_lower : (t : Bool) → t ≡ not (eqb (holders (lower b.count.top vs r) e) 0) → t ≡ true → false ≡ is_new n b.count.top vs r e
  unfolding is_new
  new_lower t q h = last_fails (is_added n ws e) _ (not-true (eqb (holders (lower b.count.top vs r) e) 0) (sym q ∙ h))

  none_lower : (t : Bool) → t ≡ not (eqb (holders (lower b.count.top vs r) e) 0) → t ≡ false → holders (lower b.count.top vs r) e ≡ 0
  none_lower t q h = eqb-true (holders (lower b.count.top vs r) e) 0 (not-false (eqb (holders (lower b.count.top vs r) e) 0) (sym q ∙ h))

  module _ (t : Bool) (all rec : ℕ) (l : length vs ≡ n) (q : t ≡ not (eqb (holders (lower b.count.top vs r) e) 0)) (z : t ≡ false) (w : holders (lower b.count.top vs r) e + all ≡ holders (lower b.count.top vs n) e) (y : rec ≡ recovery n) where
    -- those of replicas from r on are all that hold it
    all_holders : all ≡ holders ws e
    all_holders =
        let a : holders (lower b.count.top vs n) e ≡ holders ws e = ap (λ (xs : List Vote). holders xs e) (lower_all b.count.top vs n (omega arith)) in
        omega (arith, none_lower t q z)

    copies_fail : (x m c v : Bool) → c ≡ false → false ≡ ((x && (m && c)) && v)
    copies_fail true true c v h = rw h
    copies_fail true false c v h = refl
    copies_fail false m c v h = refl

    pub new_few : all < rec → false ≡ is_new n b.count.top vs r e
    unfolding is_new
    new_few h = copies_fail (follows_last (prefix ws) e) (not (among (prefix ws) e)) (leb (recovery n) (holders ws e)) _ (lt-leb (recovery n) (holders ws e) (omega (arith, all_holders)))

    all_hold : (x m c v : Bool) → x ≡ true → c ≡ true → v ≡ true → m ≡ ((x && (m && c)) && v)
    all_hold x true c v f g i = rw (f, g, i)
    all_hold x false c v f g i = rw f

    pub new_held : (p f : Bool) → f ≡ before b.last e → not f ≡ false → rec ≤ all → p ≡ among (prefix ws) e → not p ≡ is_new n b.count.top vs r e
    unfolding is_new
    new_held p a f h i o =
        rw o
        (all_hold (follows_last (prefix ws) e) (not (among (prefix ws) e)) (leb (recovery n) (holders ws e)) (eqb (holders (lower b.count.top vs r) e) 0)
        (follows_by a f ∙ not-false a h) (le-leb (recovery n) (holders ws e) (omega (arith, all_holders))) (eq-eqb (holders (lower b.count.top vs r) e) 0 (none_lower t q z)))
