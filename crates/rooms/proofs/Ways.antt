-- The ways through a step. Assumes nothing.
use Prim.Native.Nat.{ℕ}
use mathlib.Core.Path.{◌≡◌, refl, sym, ap, ◌∙◌}
use mathlib.Core.Bool.{Bool, true, false, not, true≢false}
use mathlib.Core.List.{List, []}
use native.Mathlib.Omega.{arith}
use Rattle.std.specs.Prelude.{Result, Ok, Err}
use lib.ListN.{length}
use lib.Dec.{eqb}
use borrow.Author.Tests.{not-true}
use Rattle.rules.specs.Choice.{pick}
use Rattle.rules.specs.Group.{shape_fits}
use Rattle.rules.specs.Wire.{tag_of}
use Rattle.rules.specs.Read.{wire_in, decoded}
use Rattle.rules.specs.Image.{state_of, good_bytes}
use Rattle.rules.specs.Step.{handle}
use Rattle.rules.specs.Refusals.{number_of, offset_of}
use Rattle.rules.specs.Bytes.{left, leaves, closes, step_bytes}
use Rattle.rules.specs.declared.refusals.Refusal.{Refusal}
use Rattle.rules.specs.declared.refusals.Refusal.TheVariants.{WrongState, Malformed, NotAddressedHere, WrongView, WrongStatus, WrongRole, NothingToDo, Full, NoRoom}
use Rattle.rules.specs.declared.Shape.{Shape}
use Rattle.rules.specs.declared.Message.{Message}
use Rattle.rules.proofs.Good.{sizes_unfit, length_unfit}
use Rattle.places.specs.Layout.{length_for, Stands}
use Rattle.places.proofs.Sections.{stands}
use Rattle.handler.specs.Handler.{Ready}
use Rattle.admit.specs.Refusal.{admission, wrong_at}
use Rattle.admit.proofs.Admission.{by_number, by_offset}
use Rattle.admit.proofs.Steps.{malformed_step, refused_step, handled_step, ready}

-- bytes of another length than a state of these sizes has
pub wrong_length : (sh : Shape) (b : List ℕ) (r : Bool) → r ≡ eqb (length b) (length_for sh) → not r ≡ true → false ≡ good_bytes sh b
unfolding length_for pick
wrong_length sh b r e h = go (shape_fits sh) refl
  where
    go : (f : Bool) → shape_fits sh ≡ f → false ≡ good_bytes sh b
    go false g = sizes_unfit sh b g
    go true g = length_unfit sh b (rw g at (sym e ∙ not-true r h))

-- bytes that are no good state
pub not_good : (sh : Shape) (b msg out : List ℕ) (g : Bool) → g ≡ good_bytes sh b → not g ≡ true → leaves 1 b out ≡ step_bytes sh b msg out
unfolding step_bytes pick
not_good sh b msg out true e f = absurd (true≢false (sym f))
not_good sh b msg out false e f = rw (sym e)

pub is_good : (sh : Shape) (b : List ℕ) (g : Bool) → g ≡ good_bytes sh b → not g ≡ false → good_bytes sh b ≡ true
is_good sh b true e f = sym e
is_good sh b false e f = absurd (true≢false f)

pub good_stands : (sh : Shape) (b : List ℕ) (g : Bool) → g ≡ good_bytes sh b → not g ≡ false → Stands sh (state_of sh b) b
good_stands sh b g e f = stands sh b (is_good sh b g e f)

-- ---- what is not admitted

module _ (sh : Shape) (b msg out : List ℕ) (m : Message) (at : ℕ) (g : good_bytes sh b ≡ true) (d : m ≡ decoded sh.n sh.s msg) (a : at ≡ wrong_at m msg) where
  abbrev Admits : Result Unit Refusal → Type 0
  Admits v = v ≡ admission sh (state_of sh b) (tag_of m) (wire_in sh.s msg) at

  -- a refusal of another number than 2
  other : (r : Refusal) → Admits (Err r) → (number_of r ≡ 0 → ⊥) → (number_of r ≡ 2 → ⊥) → leaves (number_of r) b out ≡ step_bytes sh b msg out
  other r e n t = refused_step sh b msg out m (number_of r) g d (by_number _ _ _ _ _ _ e) n t

  pub refused_by : (r : Refusal) → Admits (Err r) → left (Err r) b out ≡ step_bytes sh b msg out
  unfolding pick
  refused_by WrongState e = other WrongState e (λ z. absurd (omega arith)) (λ z. absurd (omega arith))
  refused_by (Malformed x) e =
      let o : x ≡ at = by_offset _ _ _ _ _ _ e in
      malformed_step sh b msg out m 2 g d (by_number _ _ _ _ _ _ e) x (o ∙ a) refl
  refused_by NotAddressedHere e = other NotAddressedHere e (λ z. absurd (omega arith)) (λ z. absurd (omega arith))
  refused_by WrongView e = other WrongView e (λ z. absurd (omega arith)) (λ z. absurd (omega arith))
  refused_by WrongStatus e = other WrongStatus e (λ z. absurd (omega arith)) (λ z. absurd (omega arith))
  refused_by WrongRole e = other WrongRole e (λ z. absurd (omega arith)) (λ z. absurd (omega arith))
  refused_by NothingToDo e = other NothingToDo e (λ z. absurd (omega arith)) (λ z. absurd (omega arith))
  refused_by Full e = other Full e (λ z. absurd (omega arith)) (λ z. absurd (omega arith))
  refused_by NoRoom e = other NoRoom e (λ z. absurd (omega arith)) (λ z. absurd (omega arith))

  -- what is admitted is handled
  pub is_ready : (o : Unit {0}) → Admits (Ok o) → Ready sh b m msg
  is_ready o e = ready sh b msg [] m 0 g d (by_number _ _ _ _ _ _ e) refl

  pub is_handled : (o : Unit {0}) → Admits (Ok o) → closes sh b out (handle (tag_of m) sh (state_of sh b) (wire_in sh.s msg)) ≡ step_bytes sh b msg out
  is_handled o e = handled_step sh b msg out m 0 g d (by_number _ _ _ _ _ _ e) refl
