use Rattle.places.proofs.Logged.{the_log}
use Rattle.places.proofs.log_length.Goals as goal

pub returns : goal.returns
returns c = the_log _ _ c.requires _ _ c.places_of-place.ensures.log c.get32-count.ensures _ c.min.ensures
