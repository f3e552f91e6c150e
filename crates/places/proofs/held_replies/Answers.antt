use Rattle.places.proofs.Spots.{replies_counted}
use Rattle.places.proofs.held_replies.Goals as goal
use Rattle.places.proofs.held_replies.Goals.{After-places_of-places}

pub returns : goal.returns
returns c = replies_counted _ _ _ _ c.places_of-places.ensures.all c.flags.ensures
