use native.Mathlib.Omega.{arith}
use Rattle.repeats.proofs.Places.{same_not, same_when}
use Rattle.repeats.proofs.same.Goals as goal

pub returns-then-get32-low : goal.returns-then-get32-low
returns-then-get32-low c = same_not c.args.b.now c.args.sp c.args.j c.spot-at.result c.get32.result c.args.low c.args.high c.spot-at.ensures c.get32.ensures (omega arith) (omega arith) c.if-get32-low.true

pub returns : goal.returns
returns c = same_when c.args.b.now c.args.sp c.args.j c.spot-at.result c.get32.result c.args.low c.args.high c.spot-at.ensures c.get32.ensures c.get16.result c.get16.ensures c.if-get32-low.false
