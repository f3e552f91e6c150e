use mathlib.Core.Path.{sym}
use Rattle.octets.proofs.Laws.{num_past_end}
use Rattle.octets.proofs.look8.Goals as goal

pub returns-then-s-at : goal.returns-then-s-at
returns-then-s-at c = sym (num_past_end _ _ 1 c.if-s-at.true)
