use mathlib.Core.Path.{◌≡◌}
use Rattle.rules.specs.Rebuild.{holders}
use Rattle.rebuild.specs.Tables.{votes_of}
use Rattle.rebuild.specs.Rebuild.{lower}
use Rattle.rebuild.proofs.held_below.Given as goal

abbrev pub invariant-loop-r : goal.invariant-loop-r
invariant-loop-r l = 0 ≡ holders (lower l.count.top (votes_of l.votes) l.r) l.e
