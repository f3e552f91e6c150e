use Rattle.views.proofs.Emptied.{early_ready, late_ready, notes_ready, votes_ready, draft_ready, replies_ready, all_zero}
use Rattle.views.proofs.empty_tables.Goals as goal

pub clear_rows-requires : goal.clear_rows-requires
clear_rows-requires c = early_ready c.requires c.places_of-places.ensures

pub clear_rows-requires-2 : goal.clear_rows-requires-2
clear_rows-requires-2 c = late_ready c.requires c.places_of-places.ensures c.clear_rows.ensures

pub clear_rows-requires-3 : goal.clear_rows-requires-3
clear_rows-requires-3 c = notes_ready c.requires c.places_of-places.ensures c.clear_rows.ensures c.clear_rows-2.ensures

pub clear_places-requires : goal.clear_places-requires
clear_places-requires c = votes_ready c.requires c.places_of-places.ensures c.clear_rows.ensures c.clear_rows-2.ensures c.clear_rows-3.ensures

pub clear_rows-requires-4 : goal.clear_rows-requires-4
clear_rows-requires-4 c = draft_ready c.requires c.places_of-places.ensures c.clear_rows.ensures c.clear_rows-2.ensures c.clear_rows-3.ensures c.clear_places.ensures

pub clear_places-requires-2 : goal.clear_places-requires-2
clear_places-requires-2 c = replies_ready c.requires c.places_of-places.ensures c.clear_rows.ensures c.clear_rows-2.ensures c.clear_rows-3.ensures c.clear_places.ensures c.clear_rows-4.ensures

pub returns : goal.returns
returns c = all_zero c.requires c.places_of-places.ensures c.clear_rows.ensures c.clear_rows-2.ensures c.clear_rows-3.ensures c.clear_places.ensures c.clear_rows-4.ensures c.clear_places-2.ensures
