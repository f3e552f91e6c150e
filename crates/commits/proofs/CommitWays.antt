-- The ways through the handler of kind 11. Assumes nothing.
use Prim.Native.Nat.{ℕ, ◌≤◌, ◌<◌}
use mathlib.Core.Path.{◌≡◌, refl, ap, ◌∙◌}
use mathlib.Core.List.{List, []}
use native.Mathlib.Omega.{arith}
use lib.ListN.{get_or}
use borrow.Author.Tests.{lt-ltb, le-ltb, le-leb, lt-leb}
use Rattle.octets.specs.Bytes.{le, num, splice}
use Rattle.rules.specs.Choice.{pick, any}
use Rattle.rules.specs.Wire.{Wire, tag_of, numbers_of}
use Rattle.rules.specs.Wire as wires
use Rattle.rules.specs.Read.{wire_in}
use Rattle.rules.specs.State.{State}
use Rattle.rules.specs.Image.{state_of}
use Rattle.rules.specs.Step.{refused, done, committed, on_commit}
use Rattle.rules.specs.Bytes.{leaves}
use Rattle.rules.specs.declared.Header.{Header}
use Rattle.rules.specs.declared.Shape.{Shape}
use Rattle.rules.specs.declared.Message.{Message}
use Rattle.rules.specs.declared.Message.TheVariants.{Commit}
use Rattle.places.specs.Layout.{Midway}
use Rattle.places.proofs.Sections.{stands_midway, stands_laid}
use Rattle.places.proofs.Head.{commit_of, sync_of, put_commit}
use Rattle.handler.specs.Handler.{Ready, handled}
use Rattle.handler.proofs.Closes.{quiet}
use Rattle.handler.proofs.Ways.{refuses, keeps, said_number}

-- the rule at a point
at_most : (sh : Shape) (st : State) (w : Wire) (p : ℕ) → wires.number w 0 ≡ p → p ≤ st.logged.commit → on_commit sh st w ≡ refused 7
unfolding on_commit pick
at_most sh st w p e h = rw (e, le-ltb st.logged.commit p h)

past : (sh : Shape) (st : State) (w : Wire) (p : ℕ) → wires.number w 0 ≡ p → st.logged.commit < p → st.logged.sync < p → on_commit sh st w ≡ refused 7
unfolding on_commit pick
past sh st w p e h g = rw (e, lt-ltb st.logged.commit p h, lt-leb p st.logged.sync g)

between : (sh : Shape) (st : State) (w : Wire) (p : ℕ) → wires.number w 0 ≡ p → st.logged.commit < p → p ≤ st.logged.sync → on_commit sh st w ≡ done (committed st p st.heard) []
unfolding on_commit pick
between sh st w p e h g = rw (e, lt-ltb st.logged.commit p h, le-leb p st.logged.sync g)

module _ (sh : Shape) (b msg out : List ℕ) (m : Message) (h : Header) (p : ℕ) (r : Ready sh b m msg) (e : m ≡ Commit h p) where
  own : tag_of m ≡ 11
  own = ap tag_of e

  point_is : wires.number (wire_in sh.s msg) 0 ≡ p
  unfolding pick any
  point_is = said_number r 11 own refl 0 ∙ ap (λ (x : Message). get_or (numbers_of x) 0 0) e

  abbrev way : Midway sh (state_of sh b) b
  way = stands_midway r.stands

  pub not_above : (c : ℕ) → c ≡ num b 32 8 → p ≤ c → leaves 7 b out ≡ handled 11 on_commit sh m b msg out
  not_above c a g =
      let q : p ≤ (state_of sh b).logged.commit = omega (arith, commit_of way) in
      refuses 11 on_commit sh b msg out m own 7 (at_most sh (state_of sh b) _ p point_is q)

  pub not_synced : (c y : ℕ) → c ≡ num b 32 8 → c < p → y ≡ num b 24 8 → y < p → leaves 7 b out ≡ handled 11 on_commit sh m b msg out
  not_synced c y a g d f =
      let q : (state_of sh b).logged.commit < p = omega (arith, commit_of way) in
      let z : (state_of sh b).logged.sync < p = omega (arith, sync_of way) in
      refuses 11 on_commit sh b msg out m own 7 (past sh (state_of sh b) _ p point_is q z)

  pub taken : (c y : ℕ) (b' : List ℕ) → c ≡ num b 32 8 → c < p → y ≡ num b 24 8 → p ≤ y → b' ≡ splice b 32 (le 8 p) → quiet b' out ≡ handled 11 on_commit sh m b msg out
  taken c y b' a g d f w =
      let q : (state_of sh b).logged.commit < p = omega (arith, commit_of way) in
      let z : p ≤ (state_of sh b).logged.sync = omega (arith, sync_of way) in
      keeps 11 on_commit sh b msg out m own _ b' (between sh (state_of sh b) _ p point_is q z) (put_commit (stands_laid r.stands) p w).bytes
