use Rattle.fields.proofs.Rows.{either_is}
use Rattle.fields.proofs.either.Goals as goal

pub returns : goal.returns
returns c = either_is c.args.t c.args.a c.args.b
