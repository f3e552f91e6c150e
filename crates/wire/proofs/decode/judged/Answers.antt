use borrow.Author.Tests.{le-leb, lt-leb, eq-eqb, ne_eqb}
use Rattle.rules.specs.Choice.{pick}
use Rattle.wire.specs.Parts.{judged_as}
use Rattle.wire.proofs.decode.judged.Goals as goal

pub returns-in-Err : goal.returns-in-Err
unfolding judged_as pick
returns-in-Err c = simp (c.in-Err.is, le-leb _ _ c.if-wrong-len.true)

pub returns-in-Err-2 : goal.returns-in-Err-2
unfolding judged_as pick
returns-in-Err-2 c = simp (c.in-Err.is, lt-leb _ _ c.if-wrong-len.false)

pub returns-in-Ok : goal.returns-in-Ok
unfolding judged_as pick
returns-in-Ok c = simp (c.in-Ok.is, eq-eqb _ _ c.if-len-end.true)

pub returns-in-Ok-2 : goal.returns-in-Ok-2
unfolding judged_as pick
returns-in-Ok-2 c = simp (c.in-Ok.is, ne_eqb _ _ c.if-len-end.false, c.min.ensures)
