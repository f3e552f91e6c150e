use Rattle.early.proofs.Lookup.{row_listed}
use Rattle.early.proofs.is_listed.Goals as goal

pub find_row-requires : goal.find_row-requires
find_row-requires c = (c.requires.inside, c.requires.few, c.requires.found)

pub returns : goal.returns
returns c = row_listed _ _ _ _ _ c.find_row.ensures
