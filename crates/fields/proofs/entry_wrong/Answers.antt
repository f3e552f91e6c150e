use Rattle.rules.specs.Read.{first_wrong}
use Rattle.fields.proofs.Expected.{expected}
use Rattle.fields.proofs.entry_wrong.Goals as goal

pub returns : goal.returns
unfolding first_wrong
returns c = simp (c.and-4.ensures, c.and-3.ensures, c.and-2.ensures, c.and.ensures, c.expect-5.ensures, c.expect-4.ensures, c.expect-3.ensures, c.expect-2.ensures, c.expect.ensures, c.mask_right.ensures, c.stamp_right.ensures) (simp expected)
