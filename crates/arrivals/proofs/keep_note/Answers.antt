use mathlib.Core.Path.{refl, sym}
use mathlib.Core.List.{List}
use Rattle.rules.specs.State.{Note}
use Rattle.rules.specs.Early.{keep_note}
use Rattle.notes.specs.Notes.{sized}
use Rattle.rules.specs.Image.{state_of}
use Rattle.notes.proofs.Notes.{decoded, is_notes, and_then}
use Rattle.notes.proofs.Row.{kept_sized}
use Rattle.places.proofs.Midway.{notes_here, notes_come}
use Rattle.arrivals.proofs.keep_note.Goals as goal

pub keep-requires : goal.keep-requires
keep-requires c = let h = notes_here c.requires.0 _ _ c.places_of-layout.ensures.notes c.places_of-layout.ensures.votes in (is_notes _ _ _ _ h, rw (decoded _ _ _ _ h) c.requires.1, c.requires.2)

pub returns : goal.returns
returns c = let h = notes_here c.requires.0 _ _ c.places_of-layout.ensures.notes c.places_of-layout.ensures.votes in let k = and_then _ _ _ _ h (λ (xs : List Note). keep_note (sized c.args.shape.c c.args.shape.s) c.args.e c.args.j c.args.stamp xs) _ c.keep.ensures in notes_come c.requires.0 _ _ _ (rw (sym (kept_sized c.args.e c.args.shape c.args.j c.args.stamp c.args.shape.c (state_of c.args.shape c.args.state.now).waiting.notes)) at k) c.places_of-layout.ensures.notes c.places_of-layout.ensures.votes refl
