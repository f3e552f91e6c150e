use Rattle.ticks.proofs.Telling.{log_long}
use Prim.Native.Nat.{◌+◌}
use native.Mathlib.Omega.{arith}
use Rattle.ticks.proofs.Ways.{leader_empty, leader_shut, leader_tight, leader_asks, leader_log, leader_done}
use Rattle.ticks.proofs.leader_releases.Goals as goal

pub returns-then-run-eq0 : goal.returns-then-run-eq0
returns-then-run-eq0 c = leader_empty c.requires _ _ _ c.log_length-n.ensures.0 _ _ c.run_length-run.ensures c.if-run-eq0.true c.leader_waits.ensures

pub returns-then-shape-n : goal.returns-then-shape-n
returns-then-shape-n c = leader_shut c.requires _ _ _ c.log_length-n.ensures.0 _ c.run_length-run.ensures c.if-run-eq0.false c.if-shape-n.true

pub overflow_add-replies_length : goal.overflow_add-replies_length
overflow_add-replies_length c = omega (arith, c.replies_length.ensures.1, c.length_for.ensures, log_long c.args.shape.s (c.log_length-n.result + c.fitting-k.result), c.fitting-k.ensures, c.requires.midway.fits.small, c.requires.midway.fits.few, c.log_length-n.ensures.1)

pub returns-then-out-replies_length : goal.returns-then-out-replies_length
returns-then-out-replies_length c = leader_tight c.requires _ _ _ c.log_length-n.ensures.0 _ _ _ _ c.run_length-run.ensures c.if-run-eq0.false c.if-shape-n.false c.fitting-k.ensures c.replies_length.ensures.0 c.length_for.ensures c.if-out-replies_length.true

pub release-at-requires : goal.release-at-requires
release-at-requires c = leader_asks c.requires c.args.out.now _ _ c.log_length-n.ensures.0 _ _ _ _ c.run_length-run.ensures c.if-run-eq0.false c.if-shape-n.false c.fitting-k.ensures c.replies_length.ensures.0 c.length_for.ensures c.if-out-replies_length.false

pub tell_log-end-requires : goal.tell_log-end-requires
tell_log-end-requires c = leader_log c.requires _ _ _ c.log_length-n.ensures.0 _ _ _ _ c.run_length-run.ensures c.if-run-eq0.false c.if-shape-n.false c.fitting-k.ensures c.replies_length.ensures.0 c.length_for.ensures c.if-out-replies_length.false _ c.release-at.ensures

pub returns : goal.returns
returns c = leader_done c.requires _ _ _ c.log_length-n.ensures.0 _ _ _ _ c.run_length-run.ensures c.if-run-eq0.false c.if-shape-n.false c.fitting-k.ensures c.replies_length.ensures.0 c.length_for.ensures c.if-out-replies_length.false _ c.release-at.ensures _ _ _ c.tell_log-end.ensures c.settle.ensures
