use mathlib.Core.Path.{sym, ◌∙◌}
use Rattle.releases.proofs.Next.{copies_noted}
use Rattle.releases.proofs.leave_by.Goals as goal

pub shape_of-state : goal.shape_of-state
shape_of-state c = c.notes_leave.ensures.releasing.midway.size ∙ sym c.requires.0.midway.size

pub returns : goal.returns
returns c = let a = c.args in copies_noted a.state.now a.n a.k _ c.copy_released.ensures c.notes_leave.ensures
