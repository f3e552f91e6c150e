-- The first view in every run, through whatever views follow and with any number of groups: a log rebuilt from votes of the first view begins with all that was counted in
-- it. Assumes nothing.
use Prim.Native.Nat.{ℕ, suc, ◌≤◌, ◌<◌, ◌%◌}
use native.Mathlib.Nat.{le_trans, le_of_eq, zero-mod}
use mathlib.Core.Path.{◌≡◌, refl, sym, subst, ◌∙◌, ap}
use mathlib.Core.Bool.{not}
use mathlib.Core.Option.{some}
use mathlib.Core.Logic.{◌⊎◌, inl, inr, ◌≢◌}
use mathlib.Core.List.{List, [], ◌∷◌, ◌++◌}
use native.Mathlib.Omega.{arith}
use lib.ListN.{length, take, replicate, length-set}
use lib.Seq.{take-take}
use lib.Dec.{T, T_not, eqb, eqb→eq, ltb→lt}
use Rattle.rules.specs.Choice.{pick, same}
use Rattle.rules.specs.Kind.{row_of, from_outside}
use Rattle.rules.specs.Wire.{Wire}
use Rattle.rules.specs.State.{Vote, State}
use Rattle.rules.specs.Rebuild.{top_from}
use Rattle.rules.specs.Step.{Outcome, refused, done, newer, equal, entered, vote_in, leads_by, view_right, status_right, role_right, starts, verifies, keeps_vote, on_vote, handle, step}
use Rattle.rules.specs.declared.Entry.{Entry}
use Rattle.rules.specs.declared.Shape.{Shape}
use Rattle.rules.proofs.Tests.{get_d_replicate}
use Rattle.rules.proofs.Run.{Config, Turn, ends, Begins, Given, turned, exec, after, Valid, gathered, RebuiltFirst, Serving, log_then, commit_then}
use Rattle.rules.proofs.RunForms.{by_test, and_l, and_r, or_case, upd_same, valid_before}
use Rattle.rules.proofs.RunPast.{Plan, chief, Past, Passed, past, Ordered}
use Rattle.rules.proofs.RunInvariant.{Later, VotesOk, Vouched, SiteOk, MsgOk, Inv, committed_less, shares_on, passed_on, sealed_on, votes_on}
use Rattle.rules.proofs.RunCore.{core}
use Rattle.rules.proofs.RunKeeps.{same_or}
use Rattle.rules.proofs.RunSteps.{votes_keep, normal_le, Own, own_sealed, first_width, first_votes_lem}
use Rattle.rules.proofs.RunAfter.{Onward}
use Rattle.rules.proofs.RunAfter as A

-- ---- a vote that is taken

-- what the turn of a vote w, from state s to state u, tells: it is in the vote's view, and has started it, or has its last normal gView and sync point still
pub record Votes (s : State) (w : Wire) (u : State) : Type 0 where
  pub view : u.view.g_view ≡ w.view
  pub seen : (u.view.normal ≡ w.view) ⊎ ((u.view.normal ≡ s.view.normal) × (u.logged.sync ≡ s.logged.sync))

data Took (sh : Shape) (s : State) (w : Wire) : Outcome → Type 0 where
  no : {x : ℕ} → Took sh s w (refused x)
  yes : {u : State} {ms : List Wire} → Votes s w u → T (view_right 8 s w) → T (status_right 8 s w) → T (role_right 8 sh s w) → Took sh s w (done u ms)

module _ (sh : Shape) (s : State) (w : Wire) (tv : T (view_right 8 s w)) (ts : T (status_right 8 s w)) (tr : T (role_right 8 sh s w)) where
  same_view : T (not (newer s w)) → s.view.g_view ≡ w.view
  unfolding view_right row_of
  same_view f =
      or_case (newer s w) (equal s w) tv (λ a. absurd (T_not (newer s w) f a))
      (λ a. sym (eqb→eq _ _ (and_l (eqb w.view s.view.g_view) (same w.g_vec s.view.g_vec) a)))

  took_keeps : (st : State) → st.view.g_view ≡ w.view → st.view.normal ≡ s.view.normal → st.logged.sync ≡ s.logged.sync → (r : ℕ) (x : Vote)
      → Took sh s w (keeps_vote sh st r x)
  unfolding keeps_vote starts verifies
  took_keeps st e a b r x =
      by_test (Took sh s w) _ (λ _. no)
      (λ _. by_test (Took sh s w) _
      (λ _. by_test (Took sh s w) _ (λ _. yes (record { view = e; seen = inr (a, b) }) tv ts tr)
      (λ _. by_test (Took sh s w) _
      (λ _. by_test (Took sh s w) _ (λ _. yes (record { view = e; seen = inl e }) tv ts tr) (λ _. no))
      (λ _. by_test (Took sh s w) _ (λ _. yes (record { view = e; seen = inr (a, b) }) tv ts tr) (λ _. no))))
      (λ _. no))

  took_vote : Took sh s w (on_vote sh s w)
  unfolding on_vote
  took_vote =
      by_test (λ (u : State). Took sh s w (keeps_vote sh u w.from_replica (vote_in w))) (newer s w)
      (λ _. took_keeps (entered sh s w) refl refl refl w.from_replica (vote_in w))
      (λ f. took_keeps s (same_view f) refl refl w.from_replica (vote_in w))

handle_vote : (sh : Shape) (s : State) (w : Wire) → handle 8 sh s w ≡ on_vote sh s w
unfolding handle pick
handle_vote sh s w = refl

took : (sh : Shape) (k : ℕ) (s : State) (w : Wire) → w.kind ≡ 8 → Took sh s w (turned sh k s w)
unfolding step
took sh k s w e =
    by_test (Took sh s w) _
    (λ _. by_test (Took sh s w) _ (λ _. no)
    (λ _. by_test (Took sh s w) _
    (λ _. by_test (Took sh s w) _
    (λ a. by_test (Took sh s w) _
    (λ b. by_test (Took sh s w) _ (λ c. handled (at a) (of b) (by c)) (λ _. no))
    (λ _. no))
    (λ _. no))
    (λ _. no)))
    (λ _. no)
  where
    at : T (view_right w.kind s w) → T (view_right 8 s w)
    at = subst (λ (y : ℕ). T (view_right y s w)) e

    of : T (status_right w.kind s w) → T (status_right 8 s w)
    of = subst (λ (y : ℕ). T (status_right y s w)) e

    by : T (role_right w.kind sh s w) → T (role_right 8 sh s w)
    by = subst (λ (y : ℕ). T (role_right y sh s w)) e

    handled : T (view_right 8 s w) → T (status_right 8 s w) → T (role_right 8 sh s w) → Took sh s w (handle w.kind sh s w)
    handled a b c = subst (λ (y : ℕ). Took sh s w (handle y sh s w)) (sym e) (rw (handle_vote sh s w) (took_vote sh s w a b c))

taken : (sh : Shape) (s : State) (w : Wire) {u : State} {ms : List Wire} → Took sh s w (done u ms)
    → Votes s w u × T (view_right 8 s w) × T (status_right 8 s w) × T (role_right 8 sh s w)
taken sh s w (yes v a b c) = (v, a, b, c)

-- ---- the votes gathered are sealed

module _ (P : Plan) (C : Config) (G : Past) (inv : Inv P C G) (i : ℕ) (w : Wire) (given : Given P.shape P.group C w) (e : w.kind ≡ 8) where
  abbrev s : State
  s = C.sites i

  abbrev o : SiteOk P G i s
  o = inv.site i

  module _ (u : State) (vs : Votes s w u) (tv : T (view_right 8 s w)) (ts : T (status_right 8 s w)) (tr : T (role_right 8 P.shape s w))
      (H : Past) (L : Later P G H) (view : H.view i ≡ u.view.g_view) (seen : H.seen i u.view.normal ≡ suc u.logged.sync)
      (still : (x : ℕ) → u.view.normal ≢ x → H.seen i x ≡ G.seen i x) where
    msg : MsgOk P G w
    unfolding role_right row_of
    msg =
        let own : T (eqb w.from_group s.site.group) = and_l (eqb w.from_group s.site.group) _ (and_r (leads_by P.shape s w) _ tr) in
        inv.msg w (given (eqb→eq _ _ own ∙ o.group) (subst (λ (y : ℕ). T (not (from_outside y))) (sym e) tt))

    -- in an equal view the site has left its last
    pub older : s.view.normal < w.view
    unfolding status_right view_right row_of
    older =
        or_case (newer s w) (eqb s.view.status 2) ts
        (λ a. let h : s.view.g_view < w.view = ltb→lt _ _ a in let l = normal_le P C G inv i in omega arith)
        (λ a.
        let h = o.moved (λ x. let t : s.view.status ≡ 2 = eqb→eq _ _ a in omega arith) in
        or_case (newer s w) (equal s w) tv (λ b. let g : s.view.g_view < w.view = ltb→lt _ _ b in omega arith)
        (λ b. let g : w.view ≡ s.view.g_view = eqb→eq _ _ (and_l (eqb w.view s.view.g_view) (same w.g_vec s.view.g_vec) b) in omega arith))

    same_below : (x : ℕ) → x < w.view → H.seen i x ≡ G.seen i x
    same_below x h = go (same_or u.view.normal x) vs.seen
      where
        go : (u.view.normal ≡ x) ⊎ (u.view.normal ≢ x) → (u.view.normal ≡ w.view) ⊎ ((u.view.normal ≡ s.view.normal) × (u.logged.sync ≡ s.logged.sync))
            → H.seen i x ≡ G.seen i x
        go (inr n) q = still x n
        go (inl a) (inl b) = absurd (omega arith)
        go (inl a) (inr b) =
            let z : G.seen i x ≡ suc s.logged.sync = subst (λ (y : ℕ). G.seen i y ≡ suc s.logged.sync) (sym b.0 ∙ a) (inv.now.seen i) in
            subst (λ (y : ℕ). H.seen i y ≡ suc u.logged.sync) a seen ∙ ap (λ (y : ℕ). suc y) b.1 ∙ sym z

    own_vote : Own P C G inv i H w.view
    own_vote = own_sealed P C G inv i H L w.view older (le_of_eq (sym (view ∙ vs.view))) same_below

    pub gathered_width : length (gathered P.shape s w) ≡ P.shape.n
    gathered_width =
        length-set (pick (newer s w) (entered P.shape s w) s).change.votes w.from_replica (some (vote_in w))
        ∙ by_test (λ (x : State). length x.change.votes ≡ P.shape.n) (newer s w) (λ _. first_width P C G inv i w) (λ _. o.width)

    pub gathered_sealed : VotesOk P H w.view (gathered P.shape s w)
    gathered_sealed =
        votes_keep P H w.view (pick (newer s w) (entered P.shape s w) s).change.votes w.from_replica (vote_in w)
        (by_test (λ (x : State). VotesOk P H w.view x.change.votes) (newer s w) {x = entered P.shape s w} {y = s} (λ _. first_votes_lem P C G inv i w H own_vote)
        (λ f. subst (λ (y : ℕ). VotesOk P H y s.change.votes) (same_view P.shape s w tv ts tr f) (votes_on L s.view.g_view s.change.votes o.votes)))
        (sealed_on L w.from_replica w.view (msg.vote e))

-- ---- the first view alone is spoken of: no change of view leads to it, so nothing is asked of their gVecs

module _ (sh : Shape) (k : ℕ) where
  abbrev pub first_plan : Plan
  first_plan = record { shape = sh; group = k; vec = λ v. replicate sh.s 0; top = 0 }

  pub ordered : (r : List Turn) → Ordered first_plan r
  unfolding Ordered
  ordered [] = tt
  ordered (x ∷ r) = (λ e a b. absurd (omega arith), ordered r)

  pub chief_zero : (v : ℕ) → chief first_plan v ≡ 0
  chief_zero v = ap (λ (x : ℕ). x % sh.n) (get_d_replicate sh.s 0 k) ∙ zero-mod sh.n

module _ (sh : Shape) (k : ℕ) (odd : sh.n % 2 ≡ 1) where
  abbrev P : Plan
  P = first_plan sh k

  -- the invariant, of every run
  pub inv_after : (r : List Turn) → Valid sh k r → Inv P (after sh k r) (past P r)
  inv_after r v = A.inv_after P odd refl r v (ordered sh k r)

  pub turn : (x : Turn) (r : List Turn) → Valid sh k (x ∷ r) → Onward P odd refl x.site (after sh k r) (after sh k (x ∷ r)) (past P r) (past P (x ∷ r))
  unfolding Valid
  turn x r v = A.turn P odd refl x r v (ordered sh k (x ∷ r)) (inv_after r v.2)

  -- a log rebuilt from a majority's votes of the first view
  pub kept_first : (G : Past) (c : ℕ) → Passed P G 0 c → (w : ℕ) → 0 < w → (d : List Entry) (x : Vouched P G w d) → top_from 0 x.votes ≡ 0 → Begins c d (G.lead 0)
  kept_first G c p w h d x e = core P odd G 0 c p w d x h (le_of_eq e) (λ a _. absurd (omega arith))

  -- ---- the claim, of a run r

  module _ (r : List Turn) (v : Valid sh k r) where
    abbrev known : Past
    known = past P r

    pub later_then : (t b : List Turn) → t ++ b ≡ r → Later P (past P b) known
    later_then t b e = A.later_then P odd refl r v (ordered sh k r) t b e

    -- what a site of the first view counted was passed there, and is in its leader's log
    record Known (c : ℕ) (l : List Entry) : Type 0 where
      passed : Passed P known 0 c
      same : take c (known.lead 0) ≡ take c l

    serving_known : (x : Serving sh k r 0) (c : ℕ) → c ≤ commit_then sh k x → Known c (log_then sh k x)
    serving_known x c h =
        let L = later_then x.since x.before x.then in
        let s = (after sh k x.before).sites x.site in
        let ok = (inv_after x.before (valid_before sh k x.since x.before (rw x.then v))).site x.site in
        let n : s.view.normal ≡ 0 = ok.still x.status ∙ x.view in
        let m = committed_less h (ok.commit (le_of_eq n)) in
        let z : m.view ≡ 0 = omega (arith, m.below) in
        let y = shares_on L (le_of_eq n) (ok.log (le_of_eq n)) in
        let inside : c ≤ s.logged.sync = le_trans h ok.order in
        let same : take c s.logged.log ≡ take c (known.lead s.view.normal) =
        sym (take-take c s.logged.sync s.logged.log inside) ∙ ap (take c) y.agree ∙ take-take c s.logged.sync (known.lead s.view.normal) inside in
        record {
          passed = passed_on L 0 c (subst (λ (j : ℕ). Passed P (past P x.before) j c) z m.passed);
          same = ap (λ (j : ℕ). take c (known.lead j)) (sym n) ∙ sym same;
        }

    next_at : (b : List Turn) (x : Turn) (u : State) (ms : List Wire) → turned sh k ((after sh k b).sites x.site) x.input ≡ done u ms
        → (after sh k (x ∷ b)).sites x.site ≡ u
    unfolding after exec ends
    next_at b x u ms e = ap (λ (y : Outcome). (ends (after sh k b) x.site y).sites x.site) e ∙ upd_same (after sh k b).sites x.site u

    given_then : (b : List Turn) (x : Turn) → Valid sh k (x ∷ b) → Given sh k (after sh k b) x.input
    unfolding Valid
    given_then b x y = y.1

    -- Each log rebuilt from a majority's votes whose greatest last normal gView is 0 begins with all that a site of the first view counted, at whatever turns, earlier
    -- or later.
    pub first_kept : (d : List Entry) → RebuiltFirst sh k r d → (x : Serving sh k r 0) (c : ℕ) → c ≤ commit_then sh k x → Begins c d (log_then sh k x)
    first_kept d b x c h =
        let valid = valid_before sh k b.since (b.turn ∷ b.before) (rw b.then v) in
        let C = after sh k b.before in
        let i = b.turn.site in
        let w = b.turn.input in
        let inv = inv_after b.before (valid_before sh k (b.turn ∷ []) b.before valid) in
        let on = turn b.turn b.before valid in
        let H = past P (b.turn ∷ b.before) in
        let me = next_at b.before b.turn b.next b.out b.taken in
        let t = taken sh (C.sites i) w (subst (Took sh (C.sites i) w) b.taken (took sh k (C.sites i) w b.vote)) in
        let view : H.view i ≡ b.next.view.g_view = on.inv.now.view i ∙ ap (λ (s : State). s.view.g_view) me in
        let seen : H.seen i b.next.view.normal ≡ suc b.next.logged.sync = subst (λ (s : State). H.seen i s.view.normal ≡ suc s.logged.sync) me (on.inv.now.seen i) in
        let still : (y : ℕ) → b.next.view.normal ≢ y → H.seen i y ≡ (past P b.before).seen i y = λ y f. on.seen i y (subst (λ (s : State). s.view.normal ≢ y) (sym me) f) in
        let given = given_then b.before b.turn valid in
        let on-to : Later P H known = later_then b.since (b.turn ∷ b.before) b.then in
        let there : Vouched P known w.view d =
        record {
          votes = gathered sh (C.sites i) w;
          width = gathered_width P C (past P b.before) inv i w given b.vote b.next t.0 t.1 t.2 t.3 H on.later view seen still;
          enough = b.enough;
          sealed = votes_on on-to w.view (gathered sh (C.sites i) w) (gathered_sealed P C (past P b.before) inv i w given b.vote b.next t.0 t.1 t.2 t.3 H on.later view seen still);
          made = b.rebuilt;
        } in
        let low = older P C (past P b.before) inv i w given b.vote b.next t.0 t.1 t.2 t.3 H on.later view seen still in
        let was = serving_known x c h in
        let e = kept_first known c was.passed w.view (omega arith) d there b.first in
        record { fits = e.fits; same = e.same ∙ was.same }
