use native.Mathlib.Omega.{arith}
use Rattle.syncs.proofs.Ways.{last_is, too_late, too_much, taken}
use Rattle.syncs.proofs.sync_by.Goals as goal

pub late_length-late-requires : goal.late_length-late-requires
late_length-late-requires c = (c.requires.0.stands, c.requires.1, last_is c.requires.0 _ c.entry_at-last.ensures)

pub returns-then-shape-late : goal.returns-then-shape-late
returns-then-shape-late c = too_late c.requires.0 _ _ c.late_length-late.ensures c.if-shape-late.true

pub returns-then-out-slow_length : goal.returns-then-out-slow_length
returns-then-out-slow_length c = too_much c.requires.0 _ _ _ c.late_length-late.ensures c.if-shape-late.false c.slow_length.ensures c.if-out-slow_length.true

pub sync_state-requires : goal.sync_state-requires
sync_state-requires c = (c.requires.0.stands, c.requires.1, last_is c.requires.0 _ c.entry_at-last.ensures, c.requires.0.room, omega (arith, c.late_length-late.ensures, c.if-shape-late.false))

pub returns : goal.returns
returns c = taken c.requires.0 _ _ _ _ _ _ c.late_length-late.ensures c.if-shape-late.false c.slow_length.ensures c.if-out-slow_length.false c.tell_synced-sent.ensures c.sync_state.ensures
