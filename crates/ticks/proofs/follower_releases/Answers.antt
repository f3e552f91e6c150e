use Rattle.ticks.proofs.Telling.{status_long}
use native.Mathlib.Omega.{arith}
use Rattle.ticks.proofs.Ways.{follower_shut, follower_tight, follower_asks, follower_tells, follower_done}
use Rattle.ticks.proofs.follower_releases.Goals as goal

pub returns-then-shape-n : goal.returns-then-shape-n
returns-then-shape-n c = follower_shut c.requires _ _ _ c.log_length-n.ensures.0 _ c.due_count-due.ensures c.if-shape-n.true

pub overflow_add-replies_length : goal.overflow_add-replies_length
overflow_add-replies_length c = omega (arith, c.replies_length.ensures.1, c.length_for.ensures, status_long c.args.shape.s, c.requires.midway.fits.few)

pub returns-then-out-replies_length : goal.returns-then-out-replies_length
returns-then-out-replies_length c = follower_tight c.requires _ _ _ c.log_length-n.ensures.0 _ c.due_count-due.ensures _ _ _ c.log_length-n.ensures.1 c.if-shape-n.false c.fitting-k.ensures c.replies_length.ensures.0 c.length_for.ensures c.if-out-replies_length.true

pub release-at-requires : goal.release-at-requires
release-at-requires c = follower_asks c.requires c.args.out.now _ _ c.log_length-n.ensures.0 _ c.due_count-due.ensures _ _ _ c.log_length-n.ensures.1 c.if-shape-n.false c.fitting-k.ensures c.replies_length.ensures.0 c.length_for.ensures c.if-out-replies_length.false

pub tell_status-end-requires : goal.tell_status-end-requires
tell_status-end-requires c = follower_tells c.requires _ _ _ c.log_length-n.ensures.0 _ c.due_count-due.ensures _ _ _ c.log_length-n.ensures.1 c.if-shape-n.false c.fitting-k.ensures c.replies_length.ensures.0 c.length_for.ensures c.if-out-replies_length.false _ c.release-at.ensures

pub returns : goal.returns
returns c = follower_done c.requires _ _ _ c.log_length-n.ensures.0 _ c.due_count-due.ensures _ _ _ c.log_length-n.ensures.1 c.if-shape-n.false c.fitting-k.ensures c.replies_length.ensures.0 c.length_for.ensures c.if-out-replies_length.false _ c.release-at.ensures _ _ _ _ c.tell_status-end.ensures c.get_sync-sync.ensures c.settle.ensures
