use Rattle.repeats.proofs.Places.{key_parts}
use borrow.Author.Rules.{rules}
use Rattle.repeats.proofs.key.Goals as goal

pub returns : goal.returns
returns c = (key_parts c.args.b.now c.args.sp c.args.i c.spot-at.result c.get32.result c.get16.result c.spot-at.ensures c.get32.ensures c.get16.ensures, search rules)
