-- Safety of one group alone through any number of views. Assumes nothing.
use Prim.Native.Nat.{ℕ, ◌≤◌, ◌<◌, ◌%◌, max}
use native.Mathlib.Nat.{le_trans}
use native.Mathlib.Decide.{dec_le}
use mathlib.Core.Path.{◌≡◌, sym, ◌∙◌}
use mathlib.Core.List.{List, [], ◌∷◌, ◌++◌}
use native.Mathlib.Omega.{arith}
use lib.ListN.{replicate}
use Rattle.rules.specs.State.{State}
use Rattle.rules.specs.declared.Entry.{Entry}
use Rattle.rules.specs.declared.Shape.{Shape}
use Rattle.rules.proofs.Run.{Turn, Begins, after, Valid, Counted, Serving, log_then, commit_then, OneVec}
use Rattle.rules.proofs.RunPast.{Plan, Past, Passed, past, Ordered}
use Rattle.rules.proofs.RunInvariant.{Committed}
use Rattle.rules.proofs.RunAfter.{inv_then, site_begins, site_committed}

-- two lists that begin alike with a third
pub begins_both : {c : ℕ} {a b l : List Entry} → Begins c a l → Begins c b l → Begins c a b
begins_both x y = record { fits = x.fits; same = x.same ∙ sym y.same }

-- the claims, of a run r in which each gView has one gVec
module _ (sh : Shape) (k : ℕ) (odd : sh.n % 2 ≡ 1) (one : sh.s ≡ 1) (vec : ℕ → List ℕ) (zeros : vec 0 ≡ replicate sh.s 0)
    (r : List Turn) (v : Valid sh k r) (q : OneVec sh k vec r) where
  -- views up to `top` are spoken of
  abbrev up_to : ℕ → Plan
  up_to top = record { shape = sh; group = k; vec = vec; top = top }

  ordered : (top : ℕ) (t : List Turn) → OneVec sh k vec t → Ordered (up_to top) t
  unfolding OneVec Ordered
  ordered top [] h = tt
  ordered top (x ∷ t) h = (λ e _ _. h.0 e, ordered top t h.1)

  -- a site's state after the turns b
  abbrev state_at : List Turn → ℕ → State
  state_at b i = (after sh k b).sites i

  module _ (top : ℕ) where
    abbrev G : Past
    G = past (up_to top) r

    o : Ordered (up_to top) r
    o = ordered top r q

    -- what a site that has synced c has, where c was passed
    log_has : (t b : List Turn) → t ++ b ≡ r → (i : ℕ) → (state_at b i).view.normal ≤ top → (u c : ℕ) → Passed (up_to top) G u c → u ≤ (state_at b i).view.normal
        → c ≤ (state_at b i).logged.commit → Begins c (state_at b i).logged.log (G.lead u)
    log_has t b e i h u c p g m =
        site_begins (up_to top) odd zeros r v o one t b e i h u c p g (λ _. le_trans m ((inv_then (up_to top) odd zeros r v o t b e).site i).order)

    has_commit : (t b : List Turn) → t ++ b ≡ r → (i : ℕ) → (state_at b i).view.normal ≤ top → (c : ℕ) → c ≤ (state_at b i).logged.commit
        → Committed (up_to top) G (state_at b i).view.normal c
    has_commit t b e i h c g = site_committed (up_to top) odd zeros r v o t b e i h c g

    normal_then : (t b : List Turn) → t ++ b ≡ r → (i : ℕ) → (state_at b i).view.status ≡ 1 → (state_at b i).view.normal ≡ (state_at b i).view.g_view
    normal_then t b e i h = ((inv_then (up_to top) odd zeros r v o t b e).site i).still h

  -- Commit points never contradict each other: two sites that held the point c, or a greater one, at whatever turns and in whatever views, had the same first c
  -- entries.
  pub commits_agree : (c : ℕ) (a b : Counted sh k r c)
      → Begins c (state_at a.before a.site).logged.log (state_at b.before b.site).logged.log
  commits_agree c a b =
      let top = max (state_at a.before a.site).view.normal (state_at b.before b.site).view.normal in
      let x : (state_at a.before a.site).view.normal ≤ top = omega arith in
      let y : (state_at b.before b.site).view.normal ≤ top = omega arith in
      go top x y (has_commit top a.since a.before a.then a.site x c a.held) (has_commit top b.since b.before b.then b.site y c b.held)
    where
      both : (top : ℕ) → (state_at a.before a.site).view.normal ≤ top → (state_at b.before b.site).view.normal ≤ top → (u : ℕ)
          → Passed (up_to top) (G top) u c → u ≤ (state_at a.before a.site).view.normal → u ≤ (state_at b.before b.site).view.normal
          → Begins c (state_at a.before a.site).logged.log (state_at b.before b.site).logged.log
      both top x y u p f g =
          begins_both (log_has top a.since a.before a.then a.site x u c p f a.held) (log_has top b.since b.before b.then b.site y u c p g b.held)

      go : (top : ℕ) → (state_at a.before a.site).view.normal ≤ top → (state_at b.before b.site).view.normal ≤ top
          → Committed (up_to top) (G top) (state_at a.before a.site).view.normal c → Committed (up_to top) (G top) (state_at b.before b.site).view.normal c
          → Begins c (state_at a.before a.site).logged.log (state_at b.before b.site).logged.log
      go top x y m n = by (dec_le m.view n.view)
        where
          by : Dec (m.view ≤ n.view) → Begins c (state_at a.before a.site).logged.log (state_at b.before b.site).logged.log
          by (yes h) = both top x y m.view m.passed m.below (le_trans h n.below)
          by (no h) = both top x y n.view n.passed (le_trans (let z : n.view ≤ m.view = omega arith in z) m.below) n.below

  -- What a site counted in some view, every site has that serves in a later one, at whatever turns, earlier or later: so above all its leader as it starts it.
  pub counted_stays : {u w : ℕ} (x : Serving sh k r u) (y : Serving sh k r w) → u < w → (c : ℕ) → c ≤ commit_then sh k x → Begins c (log_then sh k y) (log_then sh k x)
  counted_stays {u} {w} x y h c g =
      let a : (state_at x.before x.site).view.normal ≡ u = normal_then w x.since x.before x.then x.site x.status ∙ x.view in
      let b : (state_at y.before y.site).view.normal ≡ w = normal_then w y.since y.before y.then y.site y.status ∙ y.view in
      let m : (state_at x.before x.site).view.normal ≤ w = omega arith in
      let n : (state_at y.before y.site).view.normal ≤ w = omega arith in
      let k = has_commit w x.since x.before x.then x.site m c g in
      let low : k.view ≤ (state_at y.before y.site).view.normal = omega (arith, k.below) in
      begins_both
      (site_begins (up_to w) odd zeros r v (o w) one y.since y.before y.then y.site n k.view c k.passed low (λ e. absurd (omega (arith, k.below))))
      (log_has w x.since x.before x.then x.site m k.view c k.passed k.below g)

  -- So two leaders' logs agree up to each point that was counted in a view below both.
  pub leaders_agree : {u w z : ℕ} (x : Serving sh k r u) (y : Serving sh k r w) (t : Serving sh k r z) → u < w → u < z → (c : ℕ) → c ≤ commit_then sh k x
      → Begins c (log_then sh k y) (log_then sh k t)
  leaders_agree x y t f g c h = begins_both (counted_stays x y f c h) (counted_stays x t g c h)
