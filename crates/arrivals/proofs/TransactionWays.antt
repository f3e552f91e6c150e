-- The ways through the handler of kind 1. Assumes nothing.
use Prim.Native.Nat.{ℕ, ◌+◌, ◌≤◌, ◌<◌}
use mathlib.Core.Path.{◌≡◌, refl, sym, ap, ap₂, subst, ◌∙◌}
use mathlib.Core.Bool.{Bool, true, false}
use mathlib.Core.List.{List}
use native.Mathlib.Omega.{arith}
use lib.ListN.{length, get_or}
use lib.Dec.{eqb, leb}
use borrow.Author.Tests.{eqb-true, leb-true, le-leb, lt-leb}
use Rattle.rules.specs.Choice.{pick, any}
use Rattle.rules.specs.Group.{holds}
use Rattle.rules.specs.Entry.{latest, stamped, among}
use Rattle.rules.specs.Log.{raised}
use Rattle.rules.specs.Wire.{Wire, first_entry, tag_of, numbers_of}
use Rattle.rules.specs.Kind.{known, row_of, with_one}
use Rattle.rules.specs.Wire as wires
use Rattle.rules.specs.Read.{wire_in}
use Rattle.rules.specs.State.{State, leads}
use Rattle.rules.specs.Image.{state_of}
use Rattle.rules.specs.Step.{refused, due, known_to, leader_takes, follower_takes, on_transaction}
use Rattle.rules.specs.Bytes.{leaves, closes}
use Rattle.rules.specs.declared.Entry.{Entry}
use Rattle.rules.specs.declared.Header.{Header}
use Rattle.rules.specs.declared.Shape.{Shape}
use Rattle.rules.specs.declared.Message.{Message}
use Rattle.rules.specs.declared.Message.TheVariants as cases
use Rattle.rules.proofs.Choice.{and_left, and_right, or_left, or_right}
use Rattle.rules.proofs.Tests.{split, so_when}
use Rattle.handler.specs.Handler.{Ready, handled}
use Rattle.handler.proofs.Told.{told_right, told_one}
use Rattle.handler.proofs.Ways.{by_rule, refuses, said, said_number}

-- ---- the rule, by its tests

module _ (sh : Shape) (st : State) (w : Wire) (x : Entry) (q : x ≡ first_entry w) where
  again : known_to st x ≡ true → on_transaction sh st w ≡ refused 7
  unfolding on_transaction pick
  again h = rw (sym q, h)

  module _ (h : known_to st x ≡ false) (l : leads sh st ≡ true) where
    abbrev lifted : Entry
    lifted = raised st.logged.log (stamped (due w) x)

    at_leader : lifted.stamp ≤ latest → on_transaction sh st w ≡ leader_takes sh st lifted
    unfolding on_transaction pick
    at_leader u = rw (sym q, h, l, le-leb lifted.stamp latest u)

    too_late : latest < lifted.stamp → on_transaction sh st w ≡ refused 8
    unfolding on_transaction pick
    too_late u = rw (sym q, h, l, lt-leb lifted.stamp latest u)

  at_follower : known_to st x ≡ false → leads sh st ≡ false → on_transaction sh st w ≡ follower_takes sh st (stamped (due w) x)
  unfolding on_transaction pick
  at_follower h l = rw (sym q, h, l)

-- ---- the ways

module _ (sh : Shape) (b msg out : List ℕ) (m : Message) (h : Header) (time bound : ℕ) (r : Ready sh b m msg) (e : m ≡ cases.Transaction h time bound) where
  abbrev st : State
  st = state_of sh b

  abbrev w : Wire
  w = wire_in sh.s msg

  own : tag_of m ≡ 1
  own = ap tag_of e

  kind_known : known 1 ≡ true
  unfolding pick any
  kind_known = refl

  number_is : (i : ℕ) → wires.number w i ≡ get_or (numbers_of (cases.Transaction h time bound)) i 0
  number_is i = said_number r 1 own kind_known i ∙ ap (λ (x : Message). get_or (numbers_of x) i 0) e

  due_is : due w ≡ time + bound
  due_is = ap₂ ◌+◌ (number_is 0) (number_is 1)

  -- the message is well formed, so its due time is a timestamp
  pub due_low : time + bound ≤ latest
  unfolding pick row_of
  due_low =
      let f = split _ ((told_right sh.n sh.s m msg (said r 1 own kind_known) 1 own).number 1 (omega arith)) 0 in
      omega (arith, due_is, leb-true (due w) latest (and_right (leb 1 (due w)) (leb (due w) latest) f))

  -- its entry is the own group's too
  entry_ours : holds (first_entry w).mask st.site.group ≡ true
  unfolding row_of
  entry_ours =
      let t = said r 1 own kind_known in
      let n : length w.entries ≡ 1 = told_one sh.n sh.s m msg t (ap with_one own) in
      let f = split _ ((told_right sh.n sh.s m msg t 1 own).entry 0 (omega arith) 4) 1 in
      subst (λ (k : ℕ). holds (first_entry w).mask k ≡ true) (eqb-true _ _ (and_left (eqb w.to_group st.site.group) _ r.here)) (so_when _ _ f refl)

  module _ (x : Entry) (q : x ≡ first_entry w) (t : Bool) (a : t ≡ known_to st x) where
    pub known_way : t ≡ true → leaves 7 b out ≡ handled 1 on_transaction sh m b msg out
    known_way z = refuses 1 on_transaction sh b msg out m own 7 (again sh st w x q (sym a ∙ z))

    module _ (z : t ≡ false) (l : Bool) (v : l ≡ leads sh st) where
      module _ (y : Entry) (u : y ≡ stamped (time + bound) x) where
        -- it is not among the early ones
        pub not_early : (z' : Entry) → z' ≡ raised st.logged.log y → among st.waiting.early z' ≡ false
        not_early z' v' = ap (λ (d : Entry). among st.waiting.early d) (v' ∙ ap (raised st.logged.log) u) ∙ or_left (among st.waiting.early x) (among st.waiting.late x) (or_right (among st.logged.log x) _ (sym a ∙ z))

        pub ours : (z' : Entry) → z' ≡ raised st.logged.log y → holds z'.mask st.site.group ≡ true
        ours z' v' = ap (λ (d : Entry). holds d.mask st.site.group) (v' ∙ ap (raised st.logged.log) u) ∙ ap (λ (d : Entry). holds d.mask st.site.group) q ∙ entry_ours

        module _ (k : l ≡ true) (z' : Entry) (g : z' ≡ raised st.logged.log y) where
          lifted_is : z' ≡ raised st.logged.log (stamped (due w) x)
          lifted_is = g ∙ ap (raised st.logged.log) (u ∙ ap (λ (t : ℕ). stamped t x) (sym due_is))

          pub leader_way : z'.stamp ≤ latest → closes sh b out (leader_takes sh st z') ≡ handled 1 on_transaction sh m b msg out
          leader_way f = by_rule 1 on_transaction sh b msg out m own _ (at_leader sh st w x q (sym a ∙ z) (sym v ∙ k) (rw lifted_is at f) ∙ ap (leader_takes sh st) (sym lifted_is))

          pub late_way : latest < z'.stamp → leaves 8 b out ≡ handled 1 on_transaction sh m b msg out
          late_way f = refuses 1 on_transaction sh b msg out m own 8 (too_late sh st w x q (sym a ∙ z) (sym v ∙ k) (rw lifted_is at f))

        pub follower_way : l ≡ false → closes sh b out (follower_takes sh st y) ≡ handled 1 on_transaction sh m b msg out
        follower_way k = rw (u, ← due_is) (by_rule 1 on_transaction sh b msg out m own _ (at_follower sh st w x q (sym a ∙ z) (sym v ∙ k)))
