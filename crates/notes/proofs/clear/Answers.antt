use Rattle.notes.proofs.Writes.{clear_law}
use Rattle.notes.proofs.clear.Goals as goal

pub returns : goal.returns
returns c = clear_law _ _ _ _ _ c.requires.0 c.place.ensures.0 c.fill_zero.ensures
