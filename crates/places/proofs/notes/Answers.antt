use Rattle.places.proofs.Midway.{notes_here, notes_are}
use Rattle.places.proofs.notes.Goals as goal

pub returns : goal.returns
returns c = notes_are (notes_here c.requires _ _ c.places_of-layout.ensures.notes c.places_of-layout.ensures.votes)
