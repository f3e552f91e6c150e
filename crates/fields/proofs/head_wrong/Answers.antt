use Rattle.rules.specs.Read.{first_wrong}
use Rattle.fields.proofs.Expected.{expected}
use Rattle.fields.proofs.head_wrong.Goals as goal

pub returns : goal.returns
unfolding first_wrong
returns c = simp (c.and-6.ensures, c.and-5.ensures, c.and-4.ensures, c.and-3.ensures, c.and-2.ensures, c.and.ensures, c.expect-7.ensures, c.expect-6.ensures, c.expect-5.ensures, c.expect-4.ensures, c.expect-3.ensures, c.expect-2.ensures, c.expect.ensures, c.bare.ensures, c.either-from_replica.ensures, c.either-from_group.ensures, c.either-to_mask.ensures, c.some_of.ensures, c.either-to_group.ensures, c.known.ensures, c.from_outside-from.ensures, c.to_outside-to.ensures) (simp expected)
