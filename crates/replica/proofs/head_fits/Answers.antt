use Rattle.rules.specs.Read.{first_wrong}
use Rattle.fields.proofs.Expected.{expected}
use Rattle.replica.specs.Face.{head_fits}
use Rattle.replica.proofs.head_fits.Goals as goal

pub returns : goal.returns
unfolding first_wrong head_fits
returns c = simp (c.and-5.ensures, c.and-4.ensures, c.and-3.ensures, c.and-2.ensures, c.and.ensures, c.expect-6.ensures, c.expect-5.ensures, c.expect-4.ensures, c.expect-3.ensures, c.expect-2.ensures, c.expect.ensures, c.is_known.ensures) (simp expected)
