use Rattle.logs.proofs.Place.{all_by}
use Rattle.logs.proofs.fits_after.Goals as goal

pub returns : goal.returns
returns c = all_by _ _ _ _ _ _ _ _ _ c.entry_fits.ensures c.before-2.ensures c.holds.ensures c.holds-2.ensures
