use mathlib.Core.Path.{◌≡◌, ◌∙◌}
use native.Mathlib.Omega.{arith}
use borrow.Author.Rules.{rules}
use Rattle.fields.specs.Parts.{fields_of}
use Rattle.fields.proofs.Rows.{none_wrong, fits_here, wrong_here, all_fine}
use Rattle.fields.proofs.numbers_wrong.Goals as goal

pub loop-i-init : goal.loop-i-init
loop-i-init c = (omega arith, omega (arith, c.numbers_in-count.ensures), omega (arith, c.numbers_at-from.ensures), none_wrong c.args.s (fields_of c.args.p c.args.numbers.now))

pub returns-in_err-expect : goal.returns-in_err-expect
returns-in_err-expect c =
    let e : c.from_residual.result ≡ c.expect.result = search rules in
    e ∙ wrong_here c.args.s (fields_of c.args.p c.args.numbers.now) c.loop-i.i _ _ c.number_fits.result c.expect.result _ c.loop-i.invariant.3 c.number_fits.ensures c.expect.ensures c.in_err-expect.was (omega (arith, c.numbers_in-count.ensures)) (omega (arith, c.numbers_at-from.ensures))

pub loop-i-preserved : goal.loop-i-preserved
loop-i-preserved c = (omega arith, omega arith, omega arith, fits_here c.args.s (fields_of c.args.p c.args.numbers.now) c.loop-i.i _ c.number_fits.result c.expect.result _ c.loop-i.invariant.3 c.number_fits.ensures c.expect.ensures c.in_ok-expect.was)

pub returns : goal.returns
returns c = all_fine c.args.s (fields_of c.args.p c.args.numbers.now) c.loop-i.i _ c.loop-i.invariant.3 (omega (arith, c.numbers_in-count.ensures))
