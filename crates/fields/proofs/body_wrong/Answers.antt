use Rattle.fields.specs.Parts.{fields_of}
use Rattle.fields.proofs.Expected.{expected}
use Rattle.fields.proofs.Rows.{body_rows_lem}
use Rattle.fields.proofs.body_wrong.Goals as goal

pub returns : goal.returns
returns c = simp (body_rows_lem c.args.s (fields_of c.args.p c.args.numbers.now), c.and-3.ensures, c.and-2.ensures, c.and.ensures, c.numbers_wrong.ensures, c.expect-3.ensures, c.expect-2.ensures, c.expect.ensures, c.entries_fit.ensures, c.views_in.ensures.0, c.numbers_in.ensures.0, c.entries_at-entered.ensures.0, c.numbers_at-counted.ensures.0) (simp expected)
