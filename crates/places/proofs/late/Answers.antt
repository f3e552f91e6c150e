use Rattle.places.proofs.Midway.{late_here, table_is}
use Rattle.places.proofs.late.Goals as goal

pub returns : goal.returns
returns c = table_is (late_here c.requires _ _ c.places_of-layout.ensures.late c.places_of-layout.ensures.notes)
