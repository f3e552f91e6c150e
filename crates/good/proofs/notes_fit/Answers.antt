use Rattle.good.proofs.Whole.{section_fits}
use Rattle.good.proofs.notes_fit.Goals as goal

pub returns : goal.returns
returns c = section_fits _ _ _ _ c.requires.size _ c.places_of-layout.ensures.notes c.places_of-layout.ensures.votes c.notes_good.ensures
