use mathlib.Core.Path.{refl}
use Rattle.entries.proofs.Table.{is_table, decoded}
use Rattle.places.proofs.Midway.{log_here}
use Rattle.releases.proofs.Way.{log_taken}
use Rattle.releases.proofs.log_takes.Goals as goal

pub append-requires : goal.append-requires
append-requires c = let h = log_here c.requires.0.midway _ _ c.places_of-layout.ensures.log c.places_of-layout.ensures.early in (is_table _ _ _ h, rw (decoded _ _ _ h) c.requires.1)

pub returns : goal.returns
returns c = log_taken c.requires.0 _ _ _ c.places_of-layout.ensures.log c.places_of-layout.ensures.early c.append.ensures refl
