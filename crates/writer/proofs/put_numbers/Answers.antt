use mathlib.Core.Path.{refl}
use native.Mathlib.Omega.{arith}
use Rattle.writer.proofs.Writer.{number_put, no_number_put, all_numbers_put}
use Rattle.writer.proofs.put_numbers.Goals as goal

pub loop-i-init : goal.loop-i-init
loop-i-init c = (omega arith, refl, no_number_put c.args.out.now c.args.at c.args.numbers.now)

pub loop-i-preserved : goal.loop-i-preserved
loop-i-preserved c = (omega arith, omega (arith, c.put64.auto), number_put c.args.out.now c.args.at c.loop-i.i _ c.args.numbers.now c.loop-i.out _ c.requires c.loop-i-test.true refl c.loop-i.invariant.2 c.put64.ensures)

pub returns : goal.returns
returns c = all_numbers_put c.args.out.now c.args.at c.loop-i.i c.args.numbers.now _ c.loop-i.invariant.0 (omega arith) c.loop-i.invariant.2
