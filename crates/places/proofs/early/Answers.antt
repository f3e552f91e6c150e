use Rattle.places.proofs.Midway.{early_here, table_is}
use Rattle.places.proofs.early.Goals as goal

pub returns : goal.returns
returns c = table_is (early_here c.requires _ _ c.places_of-layout.ensures.early c.places_of-layout.ensures.late)
