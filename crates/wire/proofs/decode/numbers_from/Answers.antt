use native.Mathlib.Omega.{arith}
use Rattle.wire.proofs.Reader.{none_filled, next_filled, all_filled}
use Rattle.wire.proofs.decode.numbers_from.Goals as goal

pub loop-i-init : goal.loop-i-init
loop-i-init c = (omega arith, none_filled c.args.b.now c.args.at)

pub loop-i-preserved : goal.loop-i-preserved
loop-i-preserved c = (omega arith, next_filled c.args.b.now c.loop-i.numbers c.args.at c.loop-i.i c.look64.result (omega arith) c.loop-i.invariant.1 c.look64.ensures)

pub returns : goal.returns
returns c = all_filled c.args.b.now c.loop-i.numbers c.args.at c.loop-i.i c.args.count (omega arith) c.loop-i.invariant.1
