use Rattle.rules.specs.Choice.{pick}
use Rattle.fields.proofs.expect.Goals as goal

pub returns-then-right : goal.returns-then-right
unfolding pick
returns-then-right c = simp c.if-right.true

pub returns-else-right : goal.returns-else-right
unfolding pick
returns-else-right c = simp c.if-right.false
