use mathlib.Core.Path.{refl}
use Rattle.handler.proofs.Leaders.{asks_verify}
use Rattle.votes.proofs.tell_all.Goals as goal

pub tell_leaders-requires : goal.tell_leaders-requires
tell_leaders-requires c = (c.requires.0, asks_verify _ refl, c.requires.1)
