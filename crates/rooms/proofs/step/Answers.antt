use mathlib.Core.Path.{refl}
use mathlib.Core.Bool.{false}
use Rattle.rooms.proofs.Ways.{wrong_length, not_good}
use Rattle.rooms.proofs.step.Goals as goal

pub returns-then-not-has_length : goal.returns-then-not-has_length
returns-then-not-has_length c = not_good _ _ _ _ false (search wrong_length) refl
