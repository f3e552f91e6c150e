use mathlib.Core.Path.{sym}
use native.Mathlib.Omega.{arith}
use Rattle.octets.proofs.Laws.{num_past_end, get_low, get_two}
use Rattle.octets.proofs.look64.Goals as goal

pub returns-then-s-at : goal.returns-then-s-at
returns-then-s-at c = sym (num_past_end _ _ 8 c.if-s-at.true)

pub returns-then-s-at-le4 : goal.returns-then-s-at-le4
returns-then-s-at-le4 c = get_low _ _ 4 4 _ c.look32.ensures (omega arith)

pub returns : goal.returns
returns c = get_two _ _ 4 4 _ _ c.look32-2.ensures c.look32-3.ensures
