use Rattle.lookups.proofs.Keys.{asked, rows_known}
use Rattle.lookups.proofs.Apart.{notes_apart}
use Rattle.lookups.proofs.index_notes.Goals as goal

pub index-requires : goal.index-requires
index-requires c = asked _ _ _ c.requires _ _ c.count-n.ensures c.note_spots.ensures

pub returns : goal.returns
returns c = (notes_apart _ _ _ c.requires _ _ _ c.count-n.ensures c.note_spots.ensures c.index.ensures.0, rows_known _ _ _ c.requires _ _ _ c.count-n.ensures c.note_spots.ensures c.index.ensures.1)
