use Rattle.group.specs.Points.{held}
use Rattle.group.proofs.Reached.by_majority.Goals as goal

pub returns : goal.returns
unfolding held
returns c = rw (c.majority.ensures, c.by_how_many.ensures)
