use Rattle.places.proofs.Sections.{state_small}
use Rattle.releases.proofs.LogBytes.{early_within}
use Rattle.releases.proofs.early_place.Goals as goal

pub returns : goal.returns
returns c = early_within _ _ _ c.places_of.ensures.early c.requires.1 (state_small _ c.requires.0)
