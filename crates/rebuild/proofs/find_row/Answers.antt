use mathlib.Core.Path.{refl}
use Rattle.rebuild.proofs.Tables.{none_asked, slots_asked}
use Rattle.rebuild.proofs.find_row.Goals as goal

pub find_row-requires : goal.find_row-requires
find_row-requires c = none_asked _ _ _ _ _ c.requires

pub find_row-requires-2 : goal.find_row-requires-2
find_row-requires-2 c = slots_asked _ _ _ _ _ c.requires _ _ _ c.in-Some.is refl refl
