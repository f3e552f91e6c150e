-- What the cells of a kind's row say: which kinds have gVec, and what the mask of statuses asks. Assumes nothing.
use Prim.Native.Nat.{ℕ, ◌≤◌}
use mathlib.Core.Path.{◌≡◌, refl, sym, ap}
use mathlib.Core.Bool.{Bool, true, false, ◌||◌, not, true≢false}
use mathlib.Core.Logic.{◌⊎◌, inl, inr}
use native.Mathlib.Omega.{arith}
use lib.Dec.{eqb}
use borrow.Author.Tests.{eqb-true, eqb-false}
use Rattle.rules.specs.Group.{holds}
use Rattle.rules.specs.Wire.{Wire}
use Rattle.rules.specs.Kind.{Kind, Statuses, any_status, one_of, if_equal, row_of, bare, from_outside, is_one_of}
use Rattle.rules.specs.State.{State}
use Rattle.rules.specs.Step.{newer, status_fits}
use Rattle.rules.specs.declared.Sender.TheVariants.{Outsider}
use Rattle.rules.specs.declared.Receiver.TheVariants.{ALeader, AFollower, Anyone}
use Rattle.rules.specs.declared.Views.TheVariants.{AnyView, GreaterOrEqual, BothEqual}
use Rattle.rules.proofs.Tests.{◌also◌}
use Rattle.rules.proofs.EachKind.{by_row}
use Rattle.kinds.specs.Rows.{mask_of, only_if_equal, row_as}
use Rattle.kinds.specs.declared.Row.{Row}

-- ---- the cells that are matched on

module _ (k : ℕ) (r : Row) (e : r ≡ row_as k) where
  pub views_cell : r.views ≡ (row_of k).views
  views_cell = ap (λ (x : Row). x.views) e

  pub receiver_cell : r.receiver ≡ (row_of k).receiver
  receiver_cell = ap (λ (x : Row). x.receiver) e

  pub sender_cell : r.sender ≡ (row_of k).sender
  sender_cell = ap (λ (x : Row). x.sender) e

-- ---- gVec: only a kind that needs no view, from outside and to anyone, has none

abbrev Viewed : Kind → Type 0
Viewed r = (not r.g_vec ≡ false) ⊎ ((r.views ≡ AnyView) × (r.sender ≡ Outsider) × (r.receiver ≡ Anyone))

viewed : (k : ℕ) → Viewed (row_of k)
viewed =
    by_row Viewed
    (inr (refl, refl, refl) also inl refl also inl refl also inl refl also inl refl also inl refl also inl refl also inl refl also inl refl also inl refl
    also inl refl also inl refl also inr (refl, refl, refl) also tt)
    (inl refl)

one_way : {A : Type 0} {B : Type 0} → A ⊎ B → (B → ⊥) → A
one_way (inl a) n = a
one_way (inr c) n = absurd (n c)

pub not_bare : (k : ℕ) → from_outside k ≡ false → bare k ≡ false
not_bare k o = one_way (viewed k) (λ c. true≢false (rw c.1 at o))

module _ (k : ℕ) (r : Row) (e : r ≡ row_as k) where
  pub either_viewed : r.views ≡ GreaterOrEqual → bare k ≡ false
  either_viewed d = one_way (viewed k) (λ c. let z : ◌≡◌ {A = ℕ} 0 1 = cc (views_cell k r e) in omega arith)

  pub equal_viewed : r.views ≡ BothEqual → bare k ≡ false
  equal_viewed d = one_way (viewed k) (λ c. let z : ◌≡◌ {A = ℕ} 0 1 = cc (views_cell k r e) in omega arith)

  pub leader_viewed : r.receiver ≡ ALeader → bare k ≡ false
  leader_viewed d = one_way (viewed k) (λ c. let z : ◌≡◌ {A = ℕ} 0 1 = cc (receiver_cell k r e) in omega arith)

  pub follower_viewed : r.receiver ≡ AFollower → bare k ≡ false
  follower_viewed d = one_way (viewed k) (λ c. let z : ◌≡◌ {A = ℕ} 0 1 = cc (receiver_cell k r e) in omega arith)

-- ---- the statuses

-- whether a status is one of those that are asked for
abbrev pub asked : Statuses → ℕ → Bool
asked any_status v = true
asked (one_of statuses) v = is_one_of statuses v
asked (if_equal statuses) v = is_one_of statuses v

pub fits_if_equal : (x : Statuses) (st : State) (w : Wire) → only_if_equal x ≡ true → status_fits x st w ≡ (newer st w || asked x st.view.status)
fits_if_equal any_status st w e = absurd (true≢false (sym e))
fits_if_equal (one_of statuses) st w e = absurd (true≢false (sym e))
fits_if_equal (if_equal statuses) st w e = refl

pub fits_always : (x : Statuses) (st : State) (w : Wire) → only_if_equal x ≡ false → status_fits x st w ≡ asked x st.view.status
fits_always any_status st w e = refl
fits_always (one_of statuses) st w e = refl
fits_always (if_equal statuses) st w e = absurd (true≢false e)

abbrev Asks : Statuses → ℕ → Type 0
Asks x v = holds (mask_of x) v ≡ asked x v

abbrev AsksAll : Kind → Type 0
AsksAll r = Asks r.status 1 × Asks r.status 2 × Asks r.status 3

asks_all : (k : ℕ) → AsksAll (row_of k)
asks_all =
    by_row AsksAll
    ((refl, refl, refl) also (refl, refl, refl) also (refl, refl, refl) also (refl, refl, refl) also (refl, refl, refl) also (refl, refl, refl)
    also (refl, refl, refl) also (refl, refl, refl) also (refl, refl, refl) also (refl, refl, refl) also (refl, refl, refl) also (refl, refl, refl)
    also (refl, refl, refl) also tt)
    (refl, refl, refl)

-- the mask asks for the statuses of the table
pub mask_asks : (k v : ℕ) → 1 ≤ v → v ≤ 3 → Asks (row_of k).status v
mask_asks k v l m = go (eqb v 1) (eqb v 2) refl refl
  where
    go : (t u : Bool) → eqb v 1 ≡ t → eqb v 2 ≡ u → Asks (row_of k).status v
    go true u f g = rw (eqb-true v 1 f) (asks_all k).0
    go false true f g = rw (eqb-true v 2 g) (asks_all k).1
    go false false f g = let d : v ≡ 3 = omega (arith, eqb-false v 1 f, eqb-false v 2 g) in rw d (asks_all k).2
