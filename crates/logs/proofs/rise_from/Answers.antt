use Rattle.logs.proofs.Rising.{rises_is}
use Rattle.logs.proofs.rise_from.Goals as goal

pub returns : goal.returns
returns c = rises_is _ _ _ _ _ _ _ c.first_unfit.ensures
