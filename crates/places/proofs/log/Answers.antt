use Rattle.places.proofs.Midway.{log_here, table_is}
use Rattle.places.proofs.log.Goals as goal

pub returns : goal.returns
returns c = table_is (log_here c.requires _ _ c.places_of-layout.ensures.log c.places_of-layout.ensures.early)
