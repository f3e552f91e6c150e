use Rattle.places.proofs.Spots.{votes_counted}
use Rattle.places.proofs.held_votes.Goals as goal
use Rattle.places.proofs.held_votes.Goals.{After-places_of-places}

pub returns : goal.returns
returns c = votes_counted _ _ _ _ c.places_of-places.ensures.all c.flags.ensures
