-- The ways through the handler of kind 23. Assumes nothing.
use Prim.Native.Nat.{ℕ, ◌≤◌, ◌<◌}
use mathlib.Core.Path.{◌≡◌, sym, ap, ◌∙◌}
use mathlib.Core.Bool.{Bool, true, false}
use mathlib.Core.List.{List}
use native.Mathlib.Omega.{arith}
use lib.ListN.{get_or}
use borrow.Author.Tests.{lt-ltb, le-ltb}
use Rattle.octets.specs.Bytes.{num}
use Rattle.rules.specs.Choice.{pick, leading, any}
use Rattle.rules.specs.Wire.{Wire, tag_of, numbers_of}
use Rattle.rules.specs.Kind.{known}
use Rattle.rules.specs.Wire as wires
use Rattle.rules.specs.Read.{wire_in}
use Rattle.rules.specs.State.{State, leads, agreed}
use Rattle.rules.specs.Image.{state_of}
use Rattle.rules.specs.Step.{Outcome, refused, leader_releases, follower_releases, on_tick}
use Rattle.rules.specs.Early.{due_of}
use Rattle.rules.specs.Bytes.{Left, leaves, closes}
use Rattle.rules.specs.declared.Header.{Header}
use Rattle.rules.specs.declared.Shape.{Shape}
use Rattle.rules.specs.declared.Message.{Message}
use Rattle.rules.specs.declared.Message.TheVariants.{Tick}
use Rattle.places.proofs.Sections.{stands_midway}
use Rattle.places.proofs.Head.{clock_of}
use Rattle.handler.specs.Handler.{Ready, handled}
use Rattle.handler.proofs.Told.{told_number, ready_told}
use Rattle.handler.proofs.Closes.{closes_refused, handled_own}

-- the rule at a time
module _ (sh : Shape) (st : State) (w : Wire) (t : ℕ) (e : wires.number w 0 ≡ t) where
  below_clock : t < st.clock → on_tick sh st w ≡ refused 7
  unfolding on_tick pick
  below_clock h = rw (e, lt-ltb t st.clock h)

  at_leader : st.clock ≤ t → leads sh st ≡ true → on_tick sh st w ≡ leader_releases sh st t (due_of t st.waiting.early) (leading (agreed sh st.waiting.notes) (due_of t st.waiting.early))
  unfolding on_tick pick
  at_leader h l = rw (e, le-ltb t st.clock h, l)

  at_follower : st.clock ≤ t → leads sh st ≡ false → on_tick sh st w ≡ follower_releases sh st t (due_of t st.waiting.early)
  unfolding on_tick pick
  at_follower h l = rw (e, le-ltb t st.clock h, l)

module _ (sh : Shape) (b msg out : List ℕ) (m : Message) (h : Header) (t : ℕ) (r : Ready sh b m msg) (e : m ≡ Tick h t) where
  abbrev st : State
  st = state_of sh b

  time_is : wires.number (wire_in sh.s msg) 0 ≡ t
  unfolding pick any
  time_is =
      told_number sh.n sh.s m msg (ready_told sh b msg m r (ap (λ (x : Message). known (tag_of x)) e)) 0
      ∙ ap (λ (x : Message). get_or (numbers_of x) 0 0) e

  by_rule : (o : Outcome) → on_tick sh st (wire_in sh.s msg) ≡ o → handled 23 on_tick sh m b msg out ≡ closes sh b out o
  by_rule o q = handled_own 23 on_tick sh m b msg out (ap tag_of e) ∙ ap (closes sh b out) q

  module _ (c : ℕ) (a : c ≡ num b 16 8) where
    pub too_early : t < c → leaves 7 b out ≡ handled 23 on_tick sh m b msg out
    too_early g =
        let q : t < st.clock = omega (arith, clock_of (stands_midway r.stands)) in
        sym (by_rule (refused 7) (below_clock sh st _ t time_is q) ∙ closes_refused sh b out 7)

    module _ (g : c ≤ t) (l : Bool) (d : l ≡ leads sh st) where
      pub led : l ≡ true → (x : Left) → x ≡ closes sh b out (leader_releases sh st t (due_of t st.waiting.early) (leading (agreed sh st.waiting.notes) (due_of t st.waiting.early))) → x ≡ handled 23 on_tick sh m b msg out
      led y x w =
          let q : st.clock ≤ t = omega (arith, clock_of (stands_midway r.stands)) in
          w ∙ sym (by_rule _ (at_leader sh st _ t time_is q (sym d ∙ y)))

      pub followed : l ≡ false → (x : Left) → x ≡ closes sh b out (follower_releases sh st t (due_of t st.waiting.early)) → x ≡ handled 23 on_tick sh m b msg out
      followed y x w =
          let q : st.clock ≤ t = omega (arith, clock_of (stands_midway r.stands)) in
          w ∙ sym (by_rule _ (at_follower sh st _ t time_is q (sym d ∙ y)))
