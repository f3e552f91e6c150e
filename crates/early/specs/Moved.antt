-- One turn of a pass that moves what passes a test to the front.
use Rattle.std.specs.Prelude.{ℕ, ◌+◌, Bool, List, get_or, set}
use Rattle.rules.specs.Choice.{pick}

module _ {A : Type 0} (p : A → Bool) (d : A) where
  -- thing i has come to place `kept` where it passes
  unfoldable pub moved : List A → ℕ → ℕ → List A
  moved xs i kept = pick (p (get_or xs i d)) (set xs kept (get_or xs i d)) xs

  -- and how many have then
  unfoldable pub moved_to : List A → ℕ → ℕ → ℕ
  moved_to xs i kept = pick (p (get_or xs i d)) (kept + 1) kept
