use Rattle.notes.proofs.Points.{heard_flag}
use Rattle.notes.proofs.heard_at.Goals as goal

pub returns : goal.returns
returns c = heard_flag _ _ _ c.get8.ensures
