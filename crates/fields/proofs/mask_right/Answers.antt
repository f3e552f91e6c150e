use Rattle.fields.proofs.Rows.{all_three}
use Rattle.fields.proofs.mask_right.Goals as goal

pub returns : goal.returns
returns c = simp (all_three, c.some_of.ensures, c.holds-2.ensures, c.holds.ensures)
