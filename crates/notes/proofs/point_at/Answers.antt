use Rattle.notes.proofs.Points.{not_heard, was_heard}
use Rattle.notes.proofs.point_at.Goals as goal

pub returns-then-get8-eq0 : goal.returns-then-get8-eq0
returns-then-get8-eq0 c = not_heard _ _ _ c.get8.ensures c.if-get8-eq0.true

pub returns : goal.returns
returns c = was_heard _ _ _ c.get8.ensures _ c.if-get8-eq0.false c.get64.ensures
