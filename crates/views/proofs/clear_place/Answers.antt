use Rattle.views.proofs.Cleared.{place_unset, place_table, place_cleared}
use Rattle.views.proofs.clear_place.Goals as goal

pub returns-then-get8-eq0 : goal.returns-then-get8-eq0
returns-then-get8-eq0 c = place_unset _ _ _ _ c.requires.1 _ c.get8.ensures c.if-get8-eq0.true

pub clear_rows-requires : goal.clear_rows-requires
clear_rows-requires c = place_table _ _ _ _ c.requires.1 _ c.fill_zero.ensures

pub returns : goal.returns
returns c = place_cleared _ _ _ _ c.requires.1 _ c.fill_zero.ensures c.clear_rows.ensures
