-- An admission by its number and offset: those of the refusals 2 to 6, and 0 where a message is admitted. Assumes nothing.
use Prim.Native.Nat.{ℕ}
use mathlib.Core.Path.{◌≡◌, refl, sym, ap, ◌∙◌}
use mathlib.Core.Bool.{Bool, true, false, ◌||◌}
use lib.Dec.{eqb}
use Rattle.std.specs.Prelude.{Result, Ok, Err}
use Rattle.rules.specs.Choice.{pick}
use Rattle.rules.specs.Kind.{to_outside}
use Rattle.rules.specs.Wire.{Wire}
use Rattle.rules.specs.State.{State}
use Rattle.rules.specs.Step.{here, view_right, status_right, role_right}
use Rattle.rules.specs.Refusals.{number_of, offset_of}
use Rattle.rules.specs.declared.Shape.{Shape}
use Rattle.rules.specs.declared.refusals.Refusal.{Refusal}
use Rattle.rules.specs.declared.refusals.Refusal.TheVariants.{Malformed, NotAddressedHere, WrongView, WrongStatus, WrongRole}
use Rattle.admit.specs.Refusal.{refusal_of, admission}

-- the number that an admission says, 0 where it says none
abbrev pub number_said : Result Unit Refusal → ℕ
number_said (Ok o) = 0
number_said (Err r) = number_of r

-- the offset that goes with it
abbrev pub offset_said : Result Unit Refusal → ℕ
offset_said (Ok o) = 0
offset_said (Err r) = offset_of r

abbrev tested : ℕ → (o h v s r : Bool) → Result Unit Refusal
tested at o h v s r = pick o (Err (Malformed at)) (pick h (pick v (pick s (pick r (Ok tt) (Err WrongRole)) (Err WrongStatus)) (Err WrongView)) (Err NotAddressedHere))

numbered : (at : ℕ) (o h v s r : Bool) → number_said (tested at o h v s r) ≡ pick o 2 (pick h (pick v (pick s (pick r 0 6) 5) 4) 3)
unfolding pick
numbered at true h v s r = refl
numbered at false false v s r = refl
numbered at false true false s r = refl
numbered at false true true false r = refl
numbered at false true true true false = refl
numbered at false true true true true = refl

offset : (at : ℕ) (o h v s r : Bool) → offset_said (tested at o h v s r) ≡ pick (eqb (number_said (tested at o h v s r)) 2) at 0
unfolding pick
offset at true h v s r = refl
offset at false false v s r = refl
offset at false true false s r = refl
offset at false true true false r = refl
offset at false true true true false = refl
offset at false true true true true = refl

module _ (sh : Shape) (st : State) (k : ℕ) (w : Wire) (at : ℕ) (v : Result Unit Refusal) (e : v ≡ admission sh st k w at) where
  pub by_number : number_said v ≡ refusal_of sh st k w
  unfolding admission refusal_of
  by_number = ap number_said e ∙ numbered at (eqb k 0 || to_outside k) (here st w) (view_right k st w) (status_right k st w) (role_right k sh st w)

  pub by_offset : offset_said v ≡ pick (eqb (number_said v) 2) at 0
  unfolding admission
  by_offset =
      ap offset_said e
      ∙ offset at (eqb k 0 || to_outside k) (here st w) (view_right k st w) (status_right k st w) (role_right k sh st w)
      ∙ ap (λ (x : Result Unit Refusal). pick (eqb (number_said x) 2) at 0) (sym e)
