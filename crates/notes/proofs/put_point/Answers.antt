use Rattle.notes.proofs.Points.{put_stamp}
use Rattle.notes.proofs.put_point.Goals as goal

pub returns : goal.returns
returns c = put_stamp _ _ _ _ _ c.requires c.put8.ensures c.put64.ensures
