use mathlib.Core.Bool.{not}
use mathlib.Core.Path.{ap}
use native.Mathlib.Omega.{arith}
use Rattle.stamps.proofs.Lifts.{lift_within, lift_absent, lift_waits, lift_up, lift_here}
use Rattle.stamps.proofs.lift.Goals as goal

pub count-count-requires : goal.count-count-requires
count-count-requires c = omega (arith, c.early-early.ensures.0.size)

pub find-i-requires : goal.find-i-requires
find-i-requires c = omega (arith, c.early-early.ensures.0.size, c.early-early.ensures.0.count, c.early-early.ensures.0.room, c.count-count.ensures)

pub returns-then-count-i : goal.returns-then-count-i
returns-then-count-i c = lift_absent c.requires.0 c.requires.1 _ c.early-early.ensures.0 c.early-early.ensures.1 c.args.e _ _ c.count-count.ensures c.find-i.ensures c.if-count-i.true

pub entry_of-d-requires : goal.entry_of-d-requires
entry_of-d-requires c = (c.early-early.ensures.0, lift_within c.requires.0 c.requires.1 _ c.early-early.ensures.0 c.early-early.ensures.1 c.args.e _ _ c.count-count.ensures c.find-i.ensures c.if-count-i.false)

pub agreed-requires : goal.agreed-requires
agreed-requires c = c.notes-notes.ensures.0

pub returns-then-not-agreed : goal.returns-then-not-agreed
returns-then-not-agreed c = lift_waits c.requires.0 c.requires.1 _ c.early-early.ensures.0 c.early-early.ensures.1 c.args.e _ _ c.count-count.ensures c.find-i.ensures c.if-count-i.false _ c.entry_of-d.ensures _ c.notes-notes.ensures.1 _ c.agreed.ensures (ap not c.if-not-agreed.true)

pub greatest-stamp-requires : goal.greatest-stamp-requires
greatest-stamp-requires c = c.notes-notes.ensures.0

pub put_early-requires : goal.put_early-requires
put_early-requires c = (c.requires.0, rw c.early-early.ensures.1 at (lift_within c.requires.0 c.requires.1 _ c.early-early.ensures.0 c.early-early.ensures.1 c.args.e _ _ c.count-count.ensures c.find-i.ensures c.if-count-i.false), c.requires.2, lift_up c.requires.0 c.requires.1 _ c.early-early.ensures.0 c.early-early.ensures.1 c.args.e _ _ c.count-count.ensures c.find-i.ensures c.if-count-i.false _ c.entry_of-d.ensures _ c.notes-notes.ensures.1 _ _ c.agreed.ensures (ap not c.if-not-agreed.false) c.greatest-stamp.ensures _ c.stamped.ensures c.requires.3)

pub returns : goal.returns
returns c = lift_here c.requires.0 c.requires.1 _ c.early-early.ensures.0 c.early-early.ensures.1 c.args.e _ _ c.count-count.ensures c.find-i.ensures c.if-count-i.false _ c.entry_of-d.ensures _ c.notes-notes.ensures.1 _ _ c.agreed.ensures (ap not c.if-not-agreed.false) c.greatest-stamp.ensures _ c.stamped.ensures _ c.put_early.ensures
