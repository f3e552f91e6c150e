use native.Mathlib.Omega.{arith}
use Rattle.verdicts.specs.Rows.{row_in}
use Rattle.verdicts.proofs.Fresh.{limit_off, limit_past, limit_none, limit_here}
use borrow.Author.Tests.{not-true, not-false}
use Rattle.verdicts.proofs.limit_of.Goals as goal

pub returns-then-not-log : goal.returns-then-not-log
returns-then-not-log c = limit_off c.args.log (row_in c.args.b.now c.args.look.at) c.args.look.whole c.args.look.seen (not-true _ c.if-not-log.true-raw)

pub returns-then-count-lt1 : goal.returns-then-count-lt1
returns-then-count-lt1 c = limit_none c.args.log (row_in c.args.b.now c.args.look.at) c.args.look.whole c.args.look.seen c.min-count.result c.min-count.ensures (omega arith)

pub returns-then-place-count : goal.returns-then-place-count
returns-then-place-count c = limit_here c.args.log (row_in c.args.b.now c.args.look.at) c.args.look.whole c.args.look.seen c.min-count.result c.min-count.ensures c.repeat_of-place.result c.repeat_of-place.ensures c.if-place-count.true (not-false _ c.if-not-log.false-raw)

pub returns : goal.returns
returns c = limit_past c.args.log (row_in c.args.b.now c.args.look.at) c.args.look.whole c.args.look.seen c.min-count.result c.min-count.ensures c.repeat_of-place.result c.repeat_of-place.ensures c.if-place-count.false
