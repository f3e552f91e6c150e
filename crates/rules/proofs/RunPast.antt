-- What is remembered of a run of one group beside its configuration, view by view. It is read off the run; no site knows it.
use Prim.Native.Nat.{ℕ, suc, ◌≤◌, ◌<◌}
use mathlib.Core.Path.{◌≡◌}
use mathlib.Core.List.{List, [], ◌∷◌}
use lib.ListN.{length}
use lib.Dec.{eqb, ltb}
use Rattle.rules.specs.Choice.{pick, count}
use Rattle.rules.specs.Group.{majority, leader}
use Rattle.rules.specs.State.{State}
use Rattle.rules.specs.Step.{Outcome, refused, done}
use Rattle.rules.specs.declared.Entry.{Entry}
use Rattle.rules.specs.declared.Shape.{Shape}
use Rattle.rules.proofs.Run.{Config, Turn, put, first, turned, after}

-- group k of a shape; views up to `top` are spoken of, and each of them has one gVec
pub record Plan : Type 0 where
  pub shape : Shape
  pub group : ℕ
  pub vec : ℕ → List ℕ
  pub top : ℕ

-- the leader of a view
abbrev pub chief : Plan → ℕ → ℕ
chief P v = leader P.shape.n (P.vec v) P.group

-- of each site its gView, and for each view one more than the sync point that it has or had with this last normal gView, 0 if it never had it; of each view the log
-- that its leader has, or had when it left, and how long the log was that the view started with
pub record Past : Type 0 where
  pub view : ℕ → ℕ
  pub seen : ℕ → ℕ → ℕ
  pub lead : ℕ → List Entry
  pub base : ℕ → ℕ

-- its leader has started it
abbrev pub Live : Plan → Past → ℕ → Type 0
Live P G v = 0 < G.seen (chief P v) v

-- a majority of the sites have had a sync point of at least c in view v
abbrev pub Passed : Plan → Past → ℕ → ℕ → Type 0
Passed P G v c = majority P.shape.n ≤ count (λ r. ltb c (G.seen r v)) P.shape.n

-- what a site in state s adds to it
unfoldable pub seen_by : State → ℕ → ℕ → ℕ
seen_by s v old = pick (eqb s.view.normal v) (suc s.logged.sync) old

unfoldable pub led_by : State → ℕ → List Entry → List Entry
led_by s v old = pick (eqb s.view.normal v) s.logged.log old

-- the configuration is now C
unfoldable pub told : Plan → Past → Config → Past
told P G C =
    record {
      view = λ r. (C.sites r).view.g_view;
      seen = λ r v. seen_by (C.sites r) v (G.seen r v);
      lead = λ v. led_by (C.sites (chief P v)) v (G.lead v);
      base = λ v. pick (ltb 0 (G.seen (chief P v) v)) (G.base v) (length (led_by (C.sites (chief P v)) v (G.lead v)));
    }

abbrev pub nothing : Past
nothing = record { view = λ r. 0; seen = λ r v. 0; lead = λ v. []; base = λ v. 0 }

-- a turn of site i ends so
unfoldable pub tells : Plan → Past → Config → ℕ → Outcome → Past
tells P G C i (refused number) = G
tells P G C i (done next out) = told P G (put C i next out)

module _ (P : Plan) where
  -- the run's
  unfoldable pub past : List Turn → Past
  past [] = told P nothing (first P.shape P.group)
  past (t ∷ r) = tells P (past r) (after P.shape P.group r) t.site (turned P.shape P.group ((after P.shape P.group r).sites t.site) t.input)

  -- a change to a view that is spoken of names its gVec
  unfoldable pub Ordered : List Turn → Type 0
  Ordered [] = Unit {0}
  Ordered (t ∷ r) = (t.input.kind ≡ 7 → 0 < t.input.view → t.input.view ≤ P.top → t.input.g_vec ≡ P.vec t.input.view) × Ordered r
