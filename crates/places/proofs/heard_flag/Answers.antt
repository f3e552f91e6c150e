use Rattle.places.proofs.Spots.{point_flag}
use Rattle.places.proofs.heard_flag.Goals as goal

pub returns : goal.returns
returns c = point_flag _ _ _ _ c.flag.ensures c.heard_place.ensures.at
