use Rattle.logs.proofs.Place.{fits_by}
use Rattle.logs.proofs.entry_fits.Goals as goal

pub returns : goal.returns
returns c = fits_by _ _ _ c.some_of.ensures
