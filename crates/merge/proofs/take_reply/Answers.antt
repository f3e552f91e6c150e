use Rattle.merge.proofs.Turns.{kept_room, way_own, way_none, way_kept}
use Rattle.merge.proofs.take_reply.Goals as goal

pub returns-then-j-reply : goal.returns-then-j-reply
returns-then-j-reply c = way_own c.requires.0 _ _ _ _ c.requires.1 _ _ _ _ c.if-j-reply.true c.take_all.ensures

pub returns-then-not-reply_flag : goal.returns-then-not-reply_flag
returns-then-not-reply_flag c = way_none c.requires.0 _ _ _ _ c.requires.1 _ _ _ _ c.if-j-reply.false c.reply_flag.ensures c.if-not-reply_flag.true c.requires.3 c.requires.4

pub take_all-requires-2 : goal.take_all-requires-2
take_all-requires-2 c = (c.requires.3, kept_room c.requires.0 _ c.requires.1 _ _ _ c.reply_flag.ensures c.if-not-reply_flag.false c.reply_place-start.ensures c.places_of.ensures.table _ c.count-kept.ensures, c.requires.4)

pub returns : goal.returns
returns c = way_kept c.requires.0 _ _ _ _ c.requires.1 _ _ _ _ _ _ _ _ c.if-j-reply.false c.reply_flag.ensures c.if-not-reply_flag.false c.reply_place-start.ensures c.places_of.ensures.table c.count-kept.ensures c.take_all-2.ensures
