use Rattle.syncs.proofs.Slow.{tell_asked, slow_told}
use Rattle.syncs.proofs.tell_slow.Goals as goal

pub tell-requires : goal.tell-requires
tell-requires c = tell_asked c.requires.0 c.args.i c.requires.1 _ _ c.requires.2

pub returns : goal.returns
returns c = slow_told c.requires.0 c.args.i c.requires.1 (λ i. (c.type_inv.message i).fits) _ _ _ _ _ c.headed-header.ensures c.tell.ensures.0 c.tell.ensures.1
