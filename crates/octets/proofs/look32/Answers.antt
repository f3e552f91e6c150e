use mathlib.Core.Path.{sym}
use native.Mathlib.Omega.{arith}
use Rattle.octets.proofs.Laws.{num_past_end, get_low, get_two}
use Rattle.octets.proofs.look32.Goals as goal

pub returns-then-s-at : goal.returns-then-s-at
returns-then-s-at c = sym (num_past_end _ _ 4 c.if-s-at.true)

pub returns-then-s-at-le2 : goal.returns-then-s-at-le2
returns-then-s-at-le2 c = get_low _ _ 2 2 _ c.look16.ensures (omega arith)

pub returns : goal.returns
returns c = get_two _ _ 2 2 _ _ c.look16-2.ensures c.look16-3.ensures
