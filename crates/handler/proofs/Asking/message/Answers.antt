use borrow.Author.Tests.{eq-eqb, ne_eqb}
use Rattle.rules.specs.Choice.{pick}
use Rattle.handler.proofs.Asking.message.Goals as goal

pub returns-then-self-eq-TIMESTAMP_NOTE : goal.returns-then-self-eq-TIMESTAMP_NOTE
unfolding pick
returns-then-self-eq-TIMESTAMP_NOTE c = rw (eq-eqb _ _ c.if-self-eq-TIMESTAMP_NOTE.true)

pub returns : goal.returns
unfolding pick
returns c = rw (ne_eqb _ _ c.if-self-eq-TIMESTAMP_NOTE.false)
