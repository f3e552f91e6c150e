-- What the functions of this crate promise of a group of n replicas, and of a refusal: predicates over it and the answer r. Each `ensures` is its predicate, and
-- proofs/Promises shows that two answers that satisfy it are one. What they speak of is document 01's, in Group and Refusals.
use Rattle.std.specs.Prelude.{ℕ, ◌≡◌, Bool}
use Rattle.rules.specs.Group.{faults, majority, recovery, permitted}
use Rattle.rules.specs.Refusals.{number_of, offset_of}
use Rattle.rules.specs.declared.refusals.Refusal.{Refusal}

-- GroupSize::permitted
abbrev pub Permits : (n : ℕ) → (r : Bool) → Type 0
Permits n r = r ≡ permitted n

-- GroupSize::faults
abbrev pub CountsFaults : (n : ℕ) → (r : ℕ) → Type 0
CountsFaults n r = r ≡ faults n

-- GroupSize::majority
abbrev pub CountsMajority : (n : ℕ) → (r : ℕ) → Type 0
CountsMajority n r = r ≡ majority n

-- GroupSize::recovery
abbrev pub CountsRecovery : (n : ℕ) → (r : ℕ) → Type 0
CountsRecovery n r = r ≡ recovery n

-- Refusal::number
abbrev pub Numbers : (x : Refusal) → (r : ℕ) → Type 0
Numbers x r = r ≡ number_of x

-- Refusal::offset
abbrev pub TellsOffset : (x : Refusal) → (r : ℕ) → Type 0
TellsOffset x r = r ≡ offset_of x
