use native.Mathlib.Omega.{arith}
use Rattle.ticks.proofs.Ways.{waits_none, waits_due, waits_tight, waits_told}
use Rattle.ticks.proofs.leader_waits.Goals as goal

pub returns-then-due-eq0 : goal.returns-then-due-eq0
returns-then-due-eq0 c = waits_none c.requires.0 _ _ _ c.requires.1 _ _ c.requires.2 c.if-due-eq0.true c.settle.ensures

pub returns-then-out-length_for : goal.returns-then-out-length_for
returns-then-out-length_for c = waits_tight c.requires.0 _ _ _ c.requires.1 _ c.requires.2 c.if-due-eq0.false _ c.length_for.ensures c.if-out-length_for.true

pub tell_unplaced-end-requires : goal.tell_unplaced-end-requires
tell_unplaced-end-requires c = (c.requires.0, waits_due c.requires.0 c.args.out.now _ _ c.requires.1 _ c.requires.2 c.if-due-eq0.false, omega (arith, c.length_for.ensures, c.if-out-length_for.false))

pub returns : goal.returns
returns c = waits_told c.requires.0 _ _ _ c.requires.1 _ c.requires.2 c.if-due-eq0.false _ _ _ _ c.length_for.ensures c.if-out-length_for.false c.tell_unplaced-end.ensures c.settle-2.ensures
