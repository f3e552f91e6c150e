use Rattle.releases.proofs.Next.{none_noted}
use Rattle.releases.proofs.leave_notes.Goals as goal

pub returns-then-count-eq0 : goal.returns-then-count-eq0
returns-then-count-eq0 c = none_noted c.args.n c.requires.0 _ c.notes.ensures _ c.count.ensures c.if-count-eq0.true
