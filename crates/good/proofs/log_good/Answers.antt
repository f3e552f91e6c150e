use Rattle.good.proofs.Tables.{good_is}
use Rattle.good.proofs.log_good.Goals as goal

pub returns : goal.returns
returns c = good_is _ _ _ _ c.count_at-n.ensures _ _ _ c.good_place.ensures
