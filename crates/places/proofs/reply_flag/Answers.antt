use Rattle.places.proofs.Spots.{reply_flag}
use Rattle.places.proofs.reply_flag.Goals as goal

pub returns : goal.returns
returns c = reply_flag _ _ _ _ c.flag.ensures c.reply_place.ensures.at _
