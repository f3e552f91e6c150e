-- Safety over bytes through any number of views, and of the first view in every run. Assumes nothing.
use Prim.Native.Nat.{ℕ, ◌≤◌, ◌<◌}
use mathlib.Core.Path.{◌≡◌, refl, sym, subst, subst₂, ap, ◌∙◌}
use mathlib.Core.Bool.{Bool, true, false}
use mathlib.Core.List.{List, [], ◌∷◌, ◌++◌}
use native.Mathlib.Omega.{arith}
use lib.ListN.{length, replicate}
use lib.Dec.{leb}
use Rattle.octets.specs.Bytes.{flat, num, splice}
use Rattle.rules.specs.Choice.{pick}
use Rattle.rules.specs.Group.{majority, shape_fits}
use Rattle.rules.specs.Wire.{Wire, wire_bytes}
use Rattle.rules.specs.Read.{Read, malformed, message, read}
use Rattle.rules.specs.State.{State, held}
use Rattle.rules.specs.Rebuild.{top_from, rebuilt}
use Rattle.rules.specs.Step.{Outcome, refused, done, step}
use Rattle.rules.specs.Image.{image, state_of}
use Rattle.rules.specs.Bytes.{Left, leaves, closes, step_read}
use Rattle.rules.specs.declared.Entry.{Entry}
use Rattle.rules.specs.declared.Shape.{Shape}
use Rattle.rules.proofs.Choice.{by_test, pick_true}
use Rattle.rules.proofs.RunGood.{turned_step}
use Rattle.rules.proofs.Run as M
use Rattle.rules.proofs.RunFirst as F
use Rattle.rules.proofs.RunViews as W
use Rattle.runs.specs.Run.{Turn, Begins, at, after, Valid, Counted, RebuiltFirst, Serving, log_then, commit_then, OneVec}
use Rattle.runs.proofs.Follow.{taken_by, taken_in, heard, follow, step_at_read}
use Rattle.runs.proofs.Safe.{begins, odd, site, then_valid, then_heard, counted_at}

-- two tests cannot answer both
true_false : true ≡ false → ⊥
true_false e = let z : ◌≡◌ {A = ℕ} 0 1 = cc in omega arith

-- ---- each change of view over messages was given as bytes

module _ (sh : Shape) (k : ℕ) (vec : ℕ → List ℕ) where
  vec_by : (i : ℕ) (out : List ℕ) (w : Wire) (R : List M.Turn) → (w.kind ≡ 7 → w.g_vec ≡ vec w.view) → M.OneVec sh k vec R → (o : Outcome)
      → M.OneVec sh k vec (taken_by sh k i out w o ++ R)
  unfolding M.OneVec
  vec_by i out w R h q (refused number) = q
  vec_by i out w R h q (done next ws) = by_test (λ (xs : List M.Turn). M.OneVec sh k vec (xs ++ R)) (leb (length (flat wire_bytes ws)) (length out)) (λ _. (h, q)) (λ _. q)

  vec_in : (i : ℕ) (out b m : List ℕ) (R : List M.Turn) → ((w : Wire) → read sh.n sh.s m ≡ message w → w.kind ≡ 7 → w.g_vec ≡ vec w.view) → M.OneVec sh k vec R
      → (q : Read) → read sh.n sh.s m ≡ q → M.OneVec sh k vec (taken_in sh k i out b q ++ R)
  vec_in i out b m R h v (malformed place) e = v
  vec_in i out b m R h v (message w) e = vec_by i out w R (h w e) v (step sh (state_of sh b) w)

  heard_vec : (r : List Turn) → OneVec sh k vec r → M.OneVec sh k vec (heard sh k r)
  unfolding OneVec M.OneVec heard
  heard_vec [] q = tt
  heard_vec (t ∷ r) q =
      vec_in t.site t.buffer ((after sh k r).sites t.site) t.input (heard sh k r) q.0 (heard_vec r q.1) (read sh.n sh.s t.input) refl

-- ---- a turn that is not refused

record Took (sh : Shape) (b out : List ℕ) (w : Wire) : Type 0 where
  next : State
  ws : List Wire
  steps : step sh (state_of sh b) w ≡ done next ws
  room : leb (length (flat wire_bytes ws)) (length out) ≡ true

took : (sh : Shape) (b out : List ℕ) (w : Wire) (o : Outcome) → step sh (state_of sh b) w ≡ o → (closes sh b out o).refused ≡ false → Took sh b out w
unfolding closes pick
took sh b out w (refused number) e f = absurd (true_false f)
took sh b out w (done next ws) e f = go (leb (length (flat wire_bytes ws)) (length out)) refl f
  where
    go : (t : Bool) → leb (length (flat wire_bytes ws)) (length out) ≡ t
        → (pick t (record { refused = false; number = 0; offset = 0; sent = length (flat wire_bytes ws); state = image sh next; out = splice out 0 (flat wire_bytes ws) }) (leaves 9 b out)).refused ≡ false
        → Took sh b out w
    go true q g = record { next = next; ws = ws; steps = e; room = q }
    go false q g = absurd (true_false g)

taken_is : (sh : Shape) (k i : ℕ) (out b m : List ℕ) (w : Wire) → read sh.n sh.s m ≡ message w → (t : Took sh b out w)
    → taken_in sh k i out b (read sh.n sh.s m) ≡ record { site = i; input = w } ∷ []
taken_is sh k i out b m w e t =
    ap (taken_in sh k i out b) e ∙ ap (taken_by sh k i out w) t.steps ∙ pick_true (leb (length (flat wire_bytes t.ws)) (length out)) _ _ t.room

-- ---- the claims

module _ (sh : Shape) (fits : shape_fits sh ≡ true) (k : ℕ) (group : k < sh.s) where
  module _ (r : List Turn) (v : Valid sh k r) where
    abbrev R : List M.Turn
    R = heard sh k r

    mv : M.Valid sh k R
    mv = (follow sh fits k group r v).valid

    -- a site's state at some turn, over messages
    state_then : (since before : List Turn) → since ++ before ≡ r → (i : ℕ) → i < sh.n → at sh k (after sh k before) i ≡ (M.after sh k (heard sh k before)).sites i
    state_then since before e i l = site sh fits k group before (then_valid sh fits k group r v since before e) i l

    serving_at : {u : ℕ} → Serving sh k r u → M.Serving sh k R u
    serving_at {u} x =
        let h = then_heard sh fits k group r v x.since x.before x.then in
        let e = state_then x.since x.before x.then x.site x.inside in
        record {
          before = heard sh k x.before;
          since = h.0;
          site = x.site;
          then = h.1;
          status = subst (λ (s : State). s.view.status ≡ 1) e x.status;
          view = subst (λ (s : State). s.view.g_view ≡ u) e x.view;
        }

    log_at : {u : ℕ} (x : Serving sh k r u) → M.log_then sh k (serving_at x) ≡ log_then sh k x
    unfolding serving_at
    log_at x = ap (λ (s : State). s.logged.log) (sym (state_then x.since x.before x.then x.site x.inside))

    commit_at : {u : ℕ} (x : Serving sh k r u) → M.commit_then sh k (serving_at x) ≡ commit_then sh k x
    unfolding serving_at
    commit_at x = ap (λ (s : State). s.logged.commit) (sym (state_then x.since x.before x.then x.site x.inside))

    -- ---- the first view, with any number of groups

    turned_at : (b : List Turn) → Valid sh k b → (i : ℕ) → i < sh.n → (w : Wire) (next : State) (ws : List Wire)
        → step sh (state_of sh ((after sh k b).sites i)) w ≡ done next ws → M.turned sh k ((M.after sh k (heard sh k b)).sites i) w ≡ done next ws
    turned_at b vb i l w next ws e =
        let s = site sh fits k group b vb i l in
        turned_step sh fits k group ((M.after sh k (heard sh k b)).sites i) w ((follow sh fits k group b vb).agrees.good i l) ∙ ap (λ (x : State). step sh x w) (sym s) ∙ e

    first_at : (d : List Entry) → RebuiltFirst sh k r d → M.RebuiltFirst sh k R d
    unfolding Valid heard step_read
    first_at d b =
        let t = b.turn in
        let C = after sh k b.before in
        let now = then_valid sh fits k group r v b.since (t ∷ b.before) b.then in
        let f = follow sh fits k group b.before now.3 in
        let read-so = step_at_read sh fits k group C (heard sh k b.before) f t.site now.0 t.buffer t.input now.1 now.2 in
        let accepted : (closes sh (C.sites t.site) t.buffer (step sh (state_of sh (C.sites t.site)) b.vote)).refused ≡ false =
        sym (ap (λ (l : Left). l.refused) (read-so ∙ ap (step_read sh (C.sites t.site) t.buffer (num t.input 0 1)) b.reads)) ∙ b.taken in
        let w = took sh (C.sites t.site) t.buffer b.vote (step sh (state_of sh (C.sites t.site)) b.vote) refl accepted in
        let h = then_heard sh fits k group r v b.since (t ∷ b.before) b.then in
        let one = taken_is sh k t.site t.buffer (C.sites t.site) t.input b.vote b.reads w in
        let e = site sh fits k group b.before now.3 t.site now.0 in
        record {
          before = heard sh k b.before;
          turn = record { site = t.site; input = b.vote };
          since = h.0;
          then = ap (λ (xs : List M.Turn). h.0 ++ (xs ++ heard sh k b.before)) (sym one) ∙ h.1;
          vote = b.kind;
          next = w.next;
          out = w.ws;
          taken = turned_at b.before now.3 t.site now.0 b.vote w.next w.ws w.steps;
          enough = subst (λ (s : State). majority sh.n ≤ held (M.gathered sh s b.vote)) e b.enough;
          first = subst (λ (s : State). top_from 0 (M.gathered sh s b.vote) ≡ 0) e b.first;
          rebuilt = subst (λ (s : State). d ≡ rebuilt sh.n (M.gathered sh s b.vote)) e b.rebuilt;
        }

    -- Each log rebuilt from a majority's votes whose greatest last normal gView is 0 begins with all that a site of the first view counted, at whatever turns, earlier
    -- or later.
    pub first_kept : (d : List Entry) → RebuiltFirst sh k r d → (x : Serving sh k r 0) (c : ℕ) → c ≤ commit_then sh k x → Begins c d (log_then sh k x)
    first_kept d b x c h =
        subst (Begins c d) (log_at x) (begins (F.first_kept sh k (odd sh fits k group) R mv d (first_at d b) (serving_at x) c (rw (commit_at x) h)))

    -- ---- one group alone, through any number of views

    module _ (one : sh.s ≡ 1) (vec : ℕ → List ℕ) (zeros : vec 0 ≡ replicate sh.s 0) (q : OneVec sh k vec r) where
      mq : M.OneVec sh k vec R
      mq = heard_vec sh k vec r q

      -- What a site counted in some view, every site has that serves in a later one, at whatever turns, earlier or later: so above all its leader as it starts it.
      pub counted_stays : {u w : ℕ} (x : Serving sh k r u) (y : Serving sh k r w) → u < w → (c : ℕ) → c ≤ commit_then sh k x → Begins c (log_then sh k y) (log_then sh k x)
      counted_stays x y h c g =
          subst₂ (Begins c) (log_at y) (log_at x)
          (begins (W.counted_stays sh k (odd sh fits k group) one vec zeros R mv mq (serving_at x) (serving_at y) h c (rw (commit_at x) g)))

      -- So two leaders' logs agree up to each point that was counted in a view below both.
      pub leaders_agree : {u w z : ℕ} (x : Serving sh k r u) (y : Serving sh k r w) (t : Serving sh k r z) → u < w → u < z → (c : ℕ) → c ≤ commit_then sh k x
          → Begins c (log_then sh k y) (log_then sh k t)
      leaders_agree x y t f g c h =
          let a = counted_stays x y f c h in
          let b = counted_stays x t g c h in
          record { fits = a.fits; same = a.same ∙ sym b.same }

      -- Commit points never contradict each other: two sites that held the point c, or a greater one, at whatever turns and in whatever views, had the same first c
      -- entries.
      pub commits_agree : (c : ℕ) (a b : Counted sh k r c)
          → Begins c (at sh k (after sh k a.before) a.site).logged.log (at sh k (after sh k b.before) b.site).logged.log
      unfolding counted_at
      commits_agree c a b =
          subst₂ (λ (s u : State). Begins c s.logged.log u.logged.log) (sym (state_then a.since a.before a.then a.site a.inside))
          (sym (state_then b.since b.before b.then b.site b.inside))
          (begins (W.commits_agree sh k (odd sh fits k group) one vec zeros R mv mq c (counted_at sh fits k group r v c a) (counted_at sh fits k group r v c b)))
