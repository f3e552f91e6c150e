use Rattle.good.proofs.Apart.{agreed_stamp, own_stamp}
use Rattle.good.proofs.stamp_right.Goals as goal

pub returns-then-agreed_at : goal.returns-then-agreed_at
returns-then-agreed_at c = agreed_stamp c.args.c _ _ _ _ c.requires.2 _ _ _ c.requires.1 c.agreed_at.ensures c.if-agreed_at.true c.greatest_at.ensures

pub returns : goal.returns
returns c = own_stamp c.args.c _ _ _ _ c.requires.2 _ _ c.requires.1 c.agreed_at.ensures c.if-agreed_at.false
