-- The invariant holds after every turn of every run, and what that says of a site at some turn. Assumes nothing.
use Prim.Native.Nat.{ℕ, ◌≤◌, ◌<◌, ◌%◌}
use native.Mathlib.Nat.{le_refl, le_trans, le_of_eq}
use native.Mathlib.Decide.{dec_le}
use mathlib.Core.Path.{◌≡◌, refl, sym, subst, ◌∙◌, ap}
use mathlib.Core.Option.{none}
use mathlib.Core.Logic.{◌⊎◌, inl, inr, ◌≢◌}
use mathlib.Core.List.Memᴰ
use mathlib.Core.List.{List, [], ◌∷◌, ◌++◌}
use native.Mathlib.Omega.{arith}
use lib.ListN.{length, take, replicate, length-replicate}
use lib.Seq.{take-take}
use lib.Dec.{ltb, eqb, eqb→eq, lt→ltb}
use Rattle.rules.specs.Choice.{pick}
use Rattle.rules.specs.State.{State}
use Rattle.rules.specs.Step.{Outcome, refused, done}
use Rattle.rules.specs.declared.Entry.{Entry}
use Rattle.rules.specs.declared.Shape.{Shape}
use Rattle.rules.proofs.Run.{Config, Turn, put, ends, Begins, first, turned, exec, after, Valid}
use Rattle.rules.proofs.RunCounting.{count_all, quorum_fits}
use Rattle.rules.proofs.RunForms.{by_test, none_set, valid_before}
use Rattle.rules.proofs.RunPast.{Plan, chief, Past, Passed, seen_by, led_by, told, nothing, tells, past, Ordered}
use Rattle.rules.proofs.RunInvariant.{Later, later_refl, later_trans, Shares, Committed, Vouched, Now, Inv, committed_less, shares_on, committed_on}
use Rattle.rules.proofs.RunCore.{inherited}
use Rattle.rules.proofs.RunKeeps.{Stays, Moves, Joins, at_me, at_other, kept_inv, kept_later}
use Rattle.rules.proofs.RunSteps.{Fine, ref, ok}
use Rattle.rules.proofs.RunTurns.{fine_turn}

module _ (P : Plan) (odd : P.shape.n % 2 ≡ 1) (zeros : P.vec 0 ≡ replicate P.shape.s 0) where
  abbrev sh : Shape
  sh = P.shape

  abbrev k : ℕ
  k = P.group

  -- ---- at first

  abbrev start : Past
  start = told P nothing (first sh k)

  seen_zero : (r : ℕ) → start.seen r 0 ≡ 1
  unfolding told seen_by pick
  seen_zero r = refl

  seen_only : (r v : ℕ) → 0 < start.seen r v → v ≡ 0
  unfolding told seen_by
  seen_only r v = by_test (λ (x : ℕ). 0 < x → v ≡ 0) (eqb 0 v) (λ t _. sym (eqb→eq 0 v t)) (λ _ h. absurd (omega arith))

  seen_none : (r v : ℕ) → 0 < v → start.seen r v ≡ 0
  unfolding told seen_by
  seen_none r v h = by_test (λ (x : ℕ). x ≡ 0) (eqb 0 v) (λ t. absurd (let e : 0 ≡ v = eqb→eq 0 v t in omega arith)) (λ _. refl)

  lead_none : (v : ℕ) → start.lead v ≡ []
  unfolding told led_by
  lead_none v = by_test (λ (x : List Entry). x ≡ []) (eqb 0 v) (λ _. refl) (λ _. refl)

  base_none : (v : ℕ) → start.base v ≡ 0
  unfolding told pick
  base_none v = ap length (lead_none v)

  now_first : Now P (first sh k) start
  unfolding told
  now_first = record { view = λ r. refl; seen = seen_zero; led = λ v e. lead_none v }

  inv_first : Inv P (first sh k) start
  inv_first =
      record {
        now = now_first;
        site = λ i.
            record {
              group = refl;
              replica = refl;
              vec = λ _. sym zeros;
              still = λ _. refl;
              moved = λ f. absurd (f refl);
              fresh = λ v h. seen_none i v h;
              own = le_refl _;
              order = le_refl _;
              log = λ _.
                  record {
                    live = le_of_eq (sym (seen_zero (chief P 0)));
                    above = le_of_eq (base_none 0);
                    inside = omega arith;
                    own = le_refl _;
                    agree = ap (take 0) (sym (lead_none 0));
                  };
              heard = λ r p e. absurd (none_set sh.n r p e);
              commit = λ _. record { view = 0; below = le_refl _; passed = zero_passed };
              width = length-replicate sh.n none;
              votes = λ r x e. absurd (none_set sh.n r x e);
              draft = λ (e : ◌≡◌ {A = ℕ} 1 3). absurd (omega arith);
            };
        msg = λ m p. absurd (Memᴰ.not-nil p);
        based = λ w t l. record { fits = rw (base_none w) (omega arith); made = λ _ p. absurd (let z : w ≡ 0 = seen_only (chief P w) w l in omega arith) };
        zero = zero_passed;
      }
    where
      zero_passed : Passed P start 0 0
      zero_passed = le_trans (quorum_fits sh.n odd) (count_all (λ r. ltb 0 (start.seen r 0)) (λ r. lt→ltb 0 (start.seen r 0) (le_of_eq (sym (seen_zero r)))) sh.n)

  -- ---- runs

  -- what a turn of site i comes to: the other sites stay, and this one keeps its last normal gView or starts a view. Of no other last normal gView is anything new
  -- seen; and with one group the log that starts was rebuilt from a majority's votes, or comes from another site
  pub record Onward (i : ℕ) (C D : Config) (G H : Past) : Type 0 where
    pub inv : Inv P D H
    pub later : Later P G H
    pub other : (j : ℕ) → i ≢ j → D.sites j ≡ C.sites j
    pub goes : ((D.sites i).view.normal ≡ (C.sites i).view.normal) ⊎ Moves (C.sites i) (D.sites i)
    pub seen : (j v : ℕ) → (D.sites j).view.normal ≢ v → H.seen j v ≡ G.seen j v
    pub begun : sh.s ≡ 1 → Moves (C.sites i) (D.sites i) → Vouched P H (D.sites i).view.normal (D.sites i).logged.log ⊎ Joins P G i (D.sites i).view.normal

  seen_told : (G : Past) (D : Config) (j v : ℕ) → (D.sites j).view.normal ≢ v → (told P G D).seen j v ≡ G.seen j v
  unfolding told seen_by
  seen_told G D j v n = by_test (λ (x : ℕ). x ≡ G.seen j v) (eqb (D.sites j).view.normal v) (λ t. absurd (n (eqb→eq _ _ t))) (λ _. refl)

  outcome : (C : Config) (G : Past) (inv : Inv P C G) (i : ℕ) (x : Outcome) → Fine P C G inv i x → Onward i C (ends C i x) G (tells P G C i x)
  unfolding ends tells
  outcome C G inv i (refused x) ref =
      record {
        inv = inv;
        later = later_refl G;
        other = λ j n. refl;
        goes = inl refl;
        seen = λ j v n. refl;
        begun = λ one m. absurd (omega (arith, m.later));
      }
  outcome C G inv i (done u ms) (ok f) =
      let me : (put C i u ms).sites i ≡ u = at_me P C G inv i u ms in
      record {
        inv = kept_inv P C G inv i u ms f;
        later = kept_later P C G inv i u ms f;
        other = at_other P C G inv i u ms;
        goes = subst (λ (y : State). (y.view.normal ≡ (C.sites i).view.normal) ⊎ Moves (C.sites i) y) (sym me) (way f.goes);
        seen = seen_told G (put C i u ms);
        begun = λ one.
            subst (λ (y : State). Moves (C.sites i) y → Vouched P (told P G (put C i u ms)) y.view.normal y.logged.log ⊎ Joins P G i y.view.normal) (sym me)
            (f.begun one);
      }
    where
      way : Stays P i (C.sites i) u ⊎ Moves (C.sites i) u → (u.view.normal ≡ (C.sites i).view.normal) ⊎ Moves (C.sites i) u
      way (inl g) = inl g.normal
      way (inr g) = inr g

  pub turn : (x : Turn) (r : List Turn) → Valid sh k (x ∷ r) → Ordered P (x ∷ r) → Inv P (after sh k r) (past P r)
      → Onward x.site (after sh k r) (after sh k (x ∷ r)) (past P r) (past P (x ∷ r))
  unfolding Valid Ordered after exec past
  turn x r v q inv =
      outcome (after sh k r) (past P r) inv x.site (turned sh k ((after sh k r).sites x.site) x.input)
      (fine_turn P (after sh k r) (past P r) inv x.site x.input v.1 q.0)

  pub inv_after : (r : List Turn) → Valid sh k r → Ordered P r → Inv P (after sh k r) (past P r)
  unfolding Valid Ordered after past
  inv_after [] v q = inv_first
  inv_after (x ∷ r) v q = (turn x r v q (inv_after r v.2 q.1)).inv

  ordered_before : (t r : List Turn) → Ordered P (t ++ r) → Ordered P r
  unfolding Ordered
  ordered_before [] r q = q
  ordered_before (x ∷ t) r q = ordered_before t r q.1

  pub later_after : (t r : List Turn) → Valid sh k (t ++ r) → Ordered P (t ++ r) → Later P (past P r) (past P (t ++ r))
  unfolding Valid Ordered
  later_after [] r v q = later_refl _
  later_after (x ∷ t) r v q = later_trans (later_after t r v.2 q.1) (turn x (t ++ r) v q (inv_after (t ++ r) v.2 q.1)).later

  -- ---- what is known of a run r, and of a turn in it

  module _ (r : List Turn) (v : Valid sh k r) (q : Ordered P r) where
    abbrev G : Past
    G = past P r

    pub inv_now : Inv P (after sh k r) G
    inv_now = inv_after r v q

    module _ (t b : List Turn) (e : t ++ b ≡ r) where
      pub inv_then : Inv P (after sh k b) (past P b)
      inv_then = inv_after b (valid_before sh k t b (rw e v)) (ordered_before t b (rw e q))

      pub later_then : Later P (past P b) G
      later_then = subst (λ (x : List Turn). Later P (past P b) (past P x)) e (later_after t b (rw e v) (rw e q))

    -- a log that shares its entries up to p begins with what was passed in its view or in one before
    pub begins_passed : sh.s ≡ 1 → (w p : ℕ) (m : List Entry) → w ≤ P.top → Shares P G w p m → (u c : ℕ) → Passed P G u c → u ≤ w → (u ≡ w → c ≤ p)
        → Begins c m (G.lead u)
    begins_passed one w p m t x u c passed h f = go (dec_le w u)
      where
        reach : c ≤ p → take c (G.lead w) ≡ take c (G.lead u) → Begins c m (G.lead u)
        reach g e =
            record {
              fits = le_trans g x.own;
              same = sym (take-take c p m g) ∙ ap (take c) x.agree ∙ take-take c p (G.lead w) g ∙ e;
            }

        go : Dec (w ≤ u) → Begins c m (G.lead u)
        go (yes g) = let e : u ≡ w = omega arith in reach (f e) (ap (λ (y : ℕ). take c (G.lead y)) (sym e))
        go (no g) =
            let i = inherited P odd G u c passed one (after sh k r) inv_now w (omega arith) t x.live in
            reach (le_trans i.above x.above) i.same

    -- the log of a site at some turn begins with what was passed in its last normal view or in one before
    pub site_begins : sh.s ≡ 1 → (t b : List Turn) → t ++ b ≡ r → (i : ℕ) → ((after sh k b).sites i).view.normal ≤ P.top → (u c : ℕ) → Passed P G u c
        → u ≤ ((after sh k b).sites i).view.normal → (u ≡ ((after sh k b).sites i).view.normal → c ≤ ((after sh k b).sites i).logged.sync)
        → Begins c ((after sh k b).sites i).logged.log (G.lead u)
    site_begins one t b e i h =
        begins_passed one ((after sh k b).sites i).view.normal ((after sh k b).sites i).logged.sync ((after sh k b).sites i).logged.log h
        (shares_on (later_then t b e) h (((inv_then t b e).site i).log h))

    -- a commit point was passed in the last normal view or in one before
    pub site_committed : (t b : List Turn) → t ++ b ≡ r → (i : ℕ) → ((after sh k b).sites i).view.normal ≤ P.top → (c : ℕ) → c ≤ ((after sh k b).sites i).logged.commit
        → Committed P G ((after sh k b).sites i).view.normal c
    site_committed t b e i h c g = committed_on (later_then t b e) (committed_less g (((inv_then t b e).site i).commit h))
