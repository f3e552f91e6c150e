use Rattle.group.proofs.shape_fits.Goals as goal

pub returns : goal.returns
returns c = rw c.sizes_fit.ensures
