use mathlib.Core.Path.{refl}
use Rattle.entries.proofs.Table.{is_table}
use Rattle.places.proofs.Midway.{early_here}
use Rattle.releases.proofs.Way.{leave_within, early_left_lem}
use Rattle.releases.proofs.early_leaves.Goals as goal

pub leave_first-requires : goal.leave_first-requires
leave_first-requires c = (is_table _ _ _ (early_here c.requires.0.midway _ _ c.places_of-layout.ensures.early c.places_of-layout.ensures.late), leave_within c.requires.0 _ _ _ c.places_of-layout.ensures.early c.places_of-layout.ensures.late c.requires.1)

pub returns : goal.returns
returns c = early_left_lem c.requires.0 _ _ c.args.k c.places_of-layout.ensures.early c.places_of-layout.ensures.late c.leave_first.ensures refl
