use Rattle.early.proofs.Buffers.{last_asked, then_fall, then_leave, settled}
use Rattle.early.proofs.settle.Goals as goal

pub leave-requires : goal.leave-requires
leave-requires c = (last_asked c.requires.0, c.requires.2)

pub fall_late-requires : goal.fall_late-requires
fall_late-requires c = let w = then_fall _ _ c.requires.0 _ c.leave.ensures c.requires.1 in (w.0, w.1, c.requires.2)

pub leave-requires-2 : goal.leave-requires-2
leave-requires-2 c = (then_leave _ _ c.requires.0 _ c.leave.ensures _ c.fall_late.ensures, c.requires.2)

pub returns : goal.returns
returns c = settled _ _ c.requires.0 _ c.leave.ensures _ c.fall_late.ensures _ _ c.leave-2.ensures
