use mathlib.Core.Path.{refl, ap}
use mathlib.Core.Bool.{not}
use mathlib.Core.List.{List}
use Rattle.rules.specs.State.{Note}
use Rattle.notes.specs.Notes.{no_note, NotesHold}
use Rattle.early.specs.Listed.{indexed, stays}
use Rattle.early.proofs.Sifting.{moved_no, moved_yes}
use Rattle.early.proofs.sift_note.Goals as goal

pub returns-then-note_listed : goal.returns-then-note_listed
returns-then-note_listed c = moved_no (stays (indexed c.args.index)) no_note (λ (ys : List Note). NotesHold c.args.c c.args.s ys c.args.t.now) _ _ _ _ _ refl (ap not c.note_listed.ensures) (ap not c.if-note_listed.true) c.requires.0

pub returns : goal.returns
returns c = moved_yes (stays (indexed c.args.index)) no_note (λ (ys : List Note). NotesHold c.args.c c.args.s ys c.move_note.new.t) _ _ _ _ _ refl (ap not c.note_listed.ensures) (ap not c.if-note_listed.false) c.move_note.ensures
