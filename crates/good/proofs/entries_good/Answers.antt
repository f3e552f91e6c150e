use Rattle.good.proofs.Apart.{within_at, entries_are}
use Rattle.good.proofs.entries_good.Goals as goal

pub distinct3-apart-requires : goal.distinct3-apart-requires
distinct3-apart-requires c = (within_at _ _ _ _ c.places_of-layout.ensures.log c.requires.log, within_at _ _ _ _ c.places_of-layout.ensures.early c.requires.early, within_at _ _ _ _ c.places_of-layout.ensures.late c.requires.late)

pub returns : goal.returns
returns c = entries_are _ _ c.requires.known.sized.size _ _ _ _ _ _ _ c.rows_fit-log.result _ _ _ c.places_of-layout.ensures.log c.places_of-layout.ensures.early c.places_of-layout.ensures.late c.get_group-group.ensures c.last_entry-last.ensures c.no_entry.ensures c.rows_fit-log.ensures c.table_fits-early.ensures c.table_fits-late.ensures c.distinct3-apart.ensures
