-- Any two answers that satisfy the statement of a function of a group's size, or of a refusal, coincide. Assumes nothing.
use Prim.Native.Nat.{ℕ}
use mathlib.Core.Path.{◌≡◌, sym, ◌∙◌}
use mathlib.Core.Bool.{Bool}
use Rattle.rules.specs.Statements.{Permits, CountsFaults, CountsMajority, CountsRecovery, Numbers, TellsOffset}
use Rattle.rules.specs.declared.refusals.Refusal.{Refusal}

pub permitted_one : (n : ℕ) (x y : Bool) → Permits n x → Permits n y → x ≡ y
permitted_one n x y p q = p ∙ sym q

pub faults_one : (n x y : ℕ) → CountsFaults n x → CountsFaults n y → x ≡ y
faults_one n x y p q = p ∙ sym q

pub majority_one : (n x y : ℕ) → CountsMajority n x → CountsMajority n y → x ≡ y
majority_one n x y p q = p ∙ sym q

pub recovery_one : (n x y : ℕ) → CountsRecovery n x → CountsRecovery n y → x ≡ y
recovery_one n x y p q = p ∙ sym q

pub number_one : (r : Refusal) (x y : ℕ) → Numbers r x → Numbers r y → x ≡ y
number_one r x y p q = p ∙ sym q

pub offset_one : (r : Refusal) (x y : ℕ) → TellsOffset r x → TellsOffset r y → x ≡ y
offset_one r x y p q = p ∙ sym q
