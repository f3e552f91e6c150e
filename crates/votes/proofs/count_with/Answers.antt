use native.Mathlib.Omega.{arith}
use Rattle.votes.proofs.Counted.{count_entering, count_small, count_kept}
use Rattle.votes.proofs.count_with.Goals as goal

pub returns-then-cast : goal.returns-then-cast
returns-then-cast c = count_entering _ _ c.args.cast c.if-cast.true

pub overflow_add-result : goal.overflow_add-result
overflow_add-result c = omega (arith, count_small _ _ c.args.cast c.requires _ c.held_votes.ensures)

pub returns : goal.returns
returns c = count_kept _ _ c.args.cast c.requires _ c.held_votes.ensures c.if-cast.false
