use mathlib.Core.Bool.{not}
use mathlib.Core.Path.{ap}
use Rattle.good.proofs.Heads.{reply_unset, reply_is}
use Rattle.good.proofs.reply_good.Goals as goal

pub returns-then-not-reply_flag : goal.returns-then-not-reply_flag
returns-then-not-reply_flag c = reply_unset _ _ c.requires.0.size _ _ c.reply_flag.ensures (ap not c.if-not-reply_flag.true)

pub returns : goal.returns
returns c = reply_is _ _ c.requires.0.size _ _ c.reply_flag.ensures (ap not c.if-not-reply_flag.false) _ _ _ _ c.reply_place-at.ensures c.get_group-group.ensures c.count_at-count.ensures c.good_for.ensures
