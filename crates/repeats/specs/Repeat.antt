-- Of keys in a row: the first that repeats an earlier one, and the first that is a given one.
use Rattle.std.specs.Prelude.{ℕ, zero, suc, ◌<◌, ◌≡◌, Bool, false, ◌&&◌, ◌||◌, not, eqb}
use Rattle.rules.specs.Choice.{pick}

-- one of the first j keys is x
unfoldable pub seen_key : (ℕ → ℕ) → ℕ → ℕ → Bool
seen_key key x zero = false
seen_key key x (suc j) = seen_key key x j || eqb (key j) x

-- how many of the numbers below m come before the first that passes: m where none does
unfoldable pub first_to : (ℕ → Bool) → ℕ → ℕ
first_to p zero = 0
first_to p (suc i) = pick (eqb (first_to p i) i && not (p i)) (suc i) (first_to p i)

-- how many of the first m keys come before the first that repeats an earlier one
unfoldable pub repeat_place : (ℕ → ℕ) → ℕ → ℕ
repeat_place key m = first_to (λ i. seen_key key (key i) i) m

-- the first of m rows whose key is x; m where there is none
unfoldable pub row_of : (ℕ → ℕ) → ℕ → ℕ → ℕ
row_of key x m = first_to (λ i. eqb (key i) x) m

-- no two of the first m keys are equal
unfoldable pub Distinct : (ℕ → ℕ) → ℕ → Type 0
Distinct key m = (i j : ℕ) → i < m → j < m → key i ≡ key j → i ≡ j
