use native.Mathlib.Omega.{arith}
use Rattle.lookups.proofs.Keys.{rows_asked, row_by_key}
use Rattle.lookups.proofs.note_row.Goals as goal

pub find-requires : goal.find-requires
find-requires c = rows_asked _ _ _ c.requires.0 _ _ _ c.count.ensures c.note_spots.ensures c.requires.1

pub returns : goal.returns
returns c = row_by_key _ _ _ c.requires.0 _ _ _ _ _ c.count.ensures c.note_spots.ensures (omega arith) c.find.ensures
