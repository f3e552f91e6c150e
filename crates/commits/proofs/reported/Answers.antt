use Rattle.commits.proofs.StatusWays.{reported_read}
use Rattle.commits.proofs.reported.Goals as goal

pub returns : goal.returns
returns c = reported_read _ _ _ _ _ c.heard_flag-heard.ensures c.heard_point-last.ensures c.then_some.ensures
