use mathlib.Core.Path.{ap}
use mathlib.Core.Bool.{not}
use Rattle.places.proofs.Sections.{stands_midway}
use Rattle.places.proofs.Midway.{table_count}
use Rattle.arrivals.proofs.TakeWays.{place_full, note_full, out_full, taken}
use Rattle.arrivals.proofs.leader_takes.Goals as goal

pub early-requires : goal.early-requires
early-requires c = stands_midway c.requires.0

pub returns-then-shape-count : goal.returns-then-shape-count
returns-then-shape-count c = place_full _ _ _ _ c.requires.0 _ (table_count c.early.ensures.0 c.early.ensures.1 c.count.ensures) c.if-shape-count.true

pub room_for_note-requires : goal.room_for_note-requires
room_for_note-requires c = stands_midway c.requires.0

pub returns-then-not-room_for_note : goal.returns-then-not-room_for_note
returns-then-not-room_for_note c = note_full _ _ _ _ c.requires.0 _ (table_count c.early.ensures.0 c.early.ensures.1 c.count.ensures) c.if-shape-count.false _ c.room_for_note.ensures (ap not c.if-not-room_for_note.true)

pub returns-then-out-notes_length : goal.returns-then-out-notes_length
returns-then-out-notes_length c = out_full _ _ _ _ c.requires.0 _ (table_count c.early.ensures.0 c.early.ensures.1 c.count.ensures) c.if-shape-count.false _ c.room_for_note.ensures (ap not c.if-not-room_for_note.false) _ c.notes_length.ensures c.if-out-notes_length.true

pub returns : goal.returns
returns c = taken _ _ _ _ c.requires.0 _ (table_count c.early.ensures.0 c.early.ensures.1 c.count.ensures) c.if-shape-count.false _ c.room_for_note.ensures (ap not c.if-not-room_for_note.false) _ c.notes_length.ensures c.if-out-notes_length.false _ _ _ c.tell_notes-sent.ensures.0 c.tell_notes-sent.ensures.1 c.take_early.ensures
