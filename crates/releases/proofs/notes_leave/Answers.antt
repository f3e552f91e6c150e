use mathlib.Core.Path.{refl}
use Rattle.notes.proofs.Notes.{is_notes}
use Rattle.places.proofs.Midway.{notes_here}
use Rattle.releases.proofs.Way.{notes_left_lem}
use Rattle.releases.proofs.notes_leave.Goals as goal

pub leave_notes-requires : goal.leave_notes-requires
leave_notes-requires c = (is_notes _ _ _ _ (notes_here c.requires.0.midway _ _ c.places_of-layout.ensures.notes c.places_of-layout.ensures.votes), c.requires.1)

pub returns : goal.returns
returns c = notes_left_lem c.requires.0 _ _ _ c.places_of-layout.ensures.notes c.places_of-layout.ensures.votes c.leave_notes.ensures refl
