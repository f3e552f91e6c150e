-- Verdicts joined one after the other are the verdict of their rows. Assumes nothing.
use Prim.Native.Nat.{ℕ}
use mathlib.Core.Path.{◌≡◌, refl, ap, ◌∙◌}
use mathlib.Core.Bool.{Bool, true, false}
use Rattle.std.specs.Prelude.{Ok, Err}
use Rattle.std.specs.Result.{result_and}
use Rattle.rules.specs.Choice.{pick}
use Rattle.rules.specs.Read.{Verdict, all_right, wrong_field, and_then}

pub expected : (t : Bool) (a u : ℕ) (r v : Verdict) → result_and (pick t r (wrong_field a u)) v ≡ pick t (result_and r v) (wrong_field a u)
unfolding pick
expected true a u r v = refl
expected false a u r v = refl

-- a field that is expected before the rest
pub headed : (t : Bool) (a u : ℕ) (r v : Verdict) → r ≡ pick t all_right (wrong_field a u) → result_and r v ≡ pick t v (wrong_field a u)
headed t a u r v e = ap (λ (x : Verdict). result_and x v) e ∙ expected t a u all_right v

pub then_lem : (a b : Verdict) → result_and a b ≡ and_then a b
unfolding and_then
then_lem (Ok o) b = refl
then_lem (Err f) b = refl
