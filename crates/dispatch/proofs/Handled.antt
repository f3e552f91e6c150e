-- The rule of each kind, and what its handler leaves. Assumes nothing.
use Prim.Native.Nat.{ℕ}
use mathlib.Core.Path.{◌≡◌, sym, ap, ◌∙◌}
use mathlib.Core.Bool.{false}
use mathlib.Core.List.{List}
use lib.Dec.{eqb}
use Rattle.rules.specs.Wire.{Wire, tag_of}
use Rattle.rules.specs.Read.{wire_in}
use Rattle.rules.specs.State.{State}
use Rattle.rules.specs.Image.{state_of}
use Rattle.rules.specs.Step.{Outcome, refused, handle, on_vote, on_verify_reply}
use Rattle.rules.specs.Bytes.{Left, leaves, closes}
use Rattle.rules.specs.declared.Shape.{Shape}
use Rattle.rules.specs.declared.Message.{Message}
use Rattle.rules.proofs.Choice.{pick_true, pick_false}
use Rattle.handler.specs.Handler.{handled}
use Rattle.handler.proofs.Closes.{closes_refused, handled_own}
use Rattle.dispatch.specs.Concluded.{concluded}

-- the rule of each kind
abbrev Rule : Type 0
Rule = Shape → State → Wire → Outcome

abbrev pub Handles : ℕ → Rule → Type 0
Handles k on = (sh : Shape) (st : State) (w : Wire) → handle k sh st w ≡ on sh st w

-- what the handler of the case's kind leaves
module _ (sh : Shape) (m : Message) (b msg out : List ℕ) (x : Left) (c : Message) (e : m ≡ c) where
  abbrev Closes : Type 0
  Closes = x ≡ closes sh b out (handle (tag_of m) sh (state_of sh b) (wire_in sh.s msg))

  by_rule : (on : Rule) → Handles (tag_of c) on → x ≡ closes sh b out (on sh (state_of sh b) (wire_in sh.s msg)) → Closes
  by_rule on h q =
      q
      ∙ ap (closes sh b out) (sym (h sh (state_of sh b) (wire_in sh.s msg)))
      ∙ ap (λ (y : Message). closes sh b out (handle (tag_of y) sh (state_of sh b) (wire_in sh.s msg))) (sym e)

  pub taken : (on : Rule) → x ≡ handled (tag_of c) on sh m b msg out → Handles (tag_of c) on → Closes
  taken on q h = by_rule on h (q ∙ handled_own (tag_of c) on sh m b msg out (ap tag_of e))

  -- kinds 8 and 19 are taken together
  pub voted : x ≡ concluded sh m b msg out → tag_of c ≡ 8 → Handles (tag_of c) on_vote → Closes
  voted q k h =
      let t : tag_of m ≡ 8 = ap tag_of e ∙ k in
      by_rule on_vote h (q ∙ pick_false (eqb (tag_of m) 19) _ _ (ap (λ (j : ℕ). eqb j 19) t) ∙ handled_own 8 on_vote sh m b msg out t)

  pub replied : x ≡ concluded sh m b msg out → tag_of c ≡ 19 → Handles (tag_of c) on_verify_reply → Closes
  replied q k h =
      let t : tag_of m ≡ 19 = ap tag_of e ∙ k in
      by_rule on_verify_reply h (q ∙ pick_true (eqb (tag_of m) 19) _ _ (ap (λ (j : ℕ). eqb j 19) t) ∙ handled_own 19 on_verify_reply sh m b msg out t)

-- of a case that no handler takes
pub none_takes : (sh : Shape) (m : Message) (b msg out : List ℕ) (c : Message) → m ≡ c → Handles (tag_of c) (λ _ _ _. refused 2) → leaves 2 b out ≡ closes sh b out (handle (tag_of m) sh (state_of sh b) (wire_in sh.s msg))
none_takes sh m b msg out c e h = by_rule sh m b msg out (leaves 2 b out) c e (λ _ _ _. refused 2) h (sym (closes_refused sh b out 2))

pub other_vote : (sh : Shape) (m : Message) (b msg out : List ℕ) (x : Left) → eqb (tag_of m) 19 ≡ false → x ≡ handled 8 on_vote sh m b msg out → x ≡ concluded sh m b msg out
other_vote sh m b msg out x f e = e ∙ sym (pick_false (eqb (tag_of m) 19) _ _ f)

pub own_reply : (sh : Shape) (m : Message) (b msg out : List ℕ) (x : Left) → tag_of m ≡ 19 → x ≡ handled 19 on_verify_reply sh m b msg out → x ≡ concluded sh m b msg out
own_reply sh m b msg out x t e = e ∙ sym (pick_true (eqb (tag_of m) 19) _ _ (ap (λ (j : ℕ). eqb j 19) t))
