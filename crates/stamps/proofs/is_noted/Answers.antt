use Rattle.stamps.proofs.Lifts.{is_noted}
use Rattle.stamps.proofs.is_noted.Goals as goal

pub noted-requires : goal.noted-requires
noted-requires c = (c.notes.ensures.0, c.requires.1)

pub returns : goal.returns
returns c = is_noted _ _ _ _ _ _ c.notes.ensures.1 c.noted.ensures c.is_some.ensures
