use Rattle.fields.proofs.Rows.{all_five}
use Rattle.fields.proofs.number_fits.Goals as goal

pub returns : goal.returns
returns c = simp (all_five, c.either-paired.ensures, c.sum_fits.ensures, c.number_of-second.ensures, c.number_of-first.ensures)
