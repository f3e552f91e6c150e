use Rattle.fields.proofs.stamp_right.Goals as goal

pub returns : goal.returns
returns c = simp (c.either.ensures, c.stamp_fits.ensures)
