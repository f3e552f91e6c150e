use Rattle.places.proofs.Spots.{vote_flag}
use Rattle.places.proofs.vote_flag.Goals as goal

pub returns : goal.returns
returns c = vote_flag _ _ _ _ c.flag.ensures c.vote_place.ensures.at _
