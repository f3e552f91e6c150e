use mathlib.Core.Path.{sym}
use native.Mathlib.Omega.{arith}
use Rattle.octets.proofs.Laws.{num_past_end, get_low}
use Rattle.octets.proofs.look16.Goals as goal

pub returns-then-s-at : goal.returns-then-s-at
returns-then-s-at c = sym (num_past_end _ _ 2 c.if-s-at.true)

pub returns-then-s-at-le1 : goal.returns-then-s-at-le1
returns-then-s-at-le1 c = get_low _ _ 1 1 _ c.look8.ensures (omega arith)
