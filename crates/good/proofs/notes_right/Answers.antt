use mathlib.Core.Bool.{not}
use mathlib.Core.Path.{ap}
use Rattle.good.proofs.Apart.{notes_twice, notes_once}
use Rattle.good.proofs.notes_right.Goals as goal

pub index_notes-requires : goal.index_notes-requires
index_notes-requires c = c.requires.1.notes

pub returns-then-not-index_notes : goal.returns-then-not-index_notes
returns-then-not-index_notes c = notes_twice _ _ c.requires.0.sized.size _ c.requires.1 _ c.index_notes.ensures.0 (ap not c.if-not-index_notes.true)

pub early_good-requires : goal.early_good-requires
early_good-requires c = (c.requires.0, c.requires.1, c.index_notes.ensures.1)

pub returns : goal.returns
returns c = notes_once _ _ c.requires.0.sized.size _ c.requires.1 _ _ c.index_notes.ensures.0 (ap not c.if-not-index_notes.false) c.early_good.ensures
