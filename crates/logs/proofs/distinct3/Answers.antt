use Rattle.logs.proofs.Apart.{three_distinct}
use Rattle.logs.proofs.distinct3.Goals as goal

pub returns : goal.returns
returns c = three_distinct c.args.b.now c.args.c (λ i. (c.type_inv.b i).fits) _ _ _ _ _ _ c.requires.0 c.requires.1 c.requires.2 c.get32-l.ensures c.get32-m.ensures c.get32-n.ensures _ c.index.ensures.0
