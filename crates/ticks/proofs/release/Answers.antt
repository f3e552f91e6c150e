use mathlib.Core.Path.{sym, ◌∙◌}
use Rattle.ticks.proofs.Turns.{turn_start, sum_start, turn_asks, turn_tells, turn_next, leave_asks, turn_end, none_end}
use Rattle.ticks.proofs.release.Goals as goal

pub returns-then-k-eq0 : goal.returns-then-k-eq0
returns-then-k-eq0 c = none_end c.requires.0 _ _ _ c.if-k-eq0.true

pub loop-i-init : goal.loop-i-init
loop-i-init c = (turn_start c.requires.0 _ _, sum_start c.requires.0 c.args.out.now c.args.time _ c.log_digest-sum.ensures)

pub release_one-sum-requires : goal.release_one-sum-requires
release_one-sum-requires c = turn_asks c.requires.0 _ _ _ _ c.requires.1 c.requires.2 c.requires.3 c.requires.4 _ _ _ c.loop-i-test.true c.loop-i.invariant.0 c.loop-i.invariant.1

pub tell_placed-at-requires : goal.tell_placed-at-requires
tell_placed-at-requires c = turn_tells c.requires.0 _ _ _ _ c.requires.1 c.requires.2 c.requires.3 c.requires.4 _ _ _ c.loop-i-test.true c.loop-i.invariant.0 c.loop-i.invariant.1 _ c.release_one-sum.ensures.0 c.release_one-sum.ensures.1

pub loop-i-preserved : goal.loop-i-preserved
loop-i-preserved c = turn_next c.requires.0 _ _ _ _ c.requires.1 c.requires.2 c.requires.3 c.requires.4 _ _ _ c.loop-i-test.true c.loop-i.invariant.0 c.loop-i.invariant.1 _ c.release_one-sum.ensures.0 c.release_one-sum.ensures.1 _ _ c.tell_placed-at.ensures

pub leave_released-requires : goal.leave_released-requires
leave_released-requires c = leave_asks c.requires.0 _ _ _ _ _ _ c.requires.1 c.requires.2 c.loop-i.auto.i-end c.loop-i-test.false c.loop-i.invariant.0

pub shape_of-state : goal.shape_of-state
shape_of-state c = c.leave_released.ensures.releasing.midway.size ∙ sym c.requires.0.midway.size

pub returns : goal.returns
returns c = turn_end c.requires.0 _ _ _ _ _ _ c.requires.1 c.requires.2 c.loop-i.auto.i-end c.loop-i-test.false c.loop-i.invariant.0 _ c.leave_released.ensures
