use mathlib.Core.Bool.{not}
use mathlib.Core.Path.{refl, ap}
use Rattle.rules.specs.Choice.{any, pick}
use Rattle.rules.specs.Wire.{case_at}
use Rattle.rules.specs.Kind.{row_of}
use Rattle.rules.specs.Step.{on_note}
use Rattle.handler.proofs.Closes.{handled_other}
use Rattle.handler.proofs.OtherKind.{other_case}
use Rattle.places.proofs.Sections.{stands_midway}
use Rattle.arrivals.proofs.NoteWays.{in_log, from_below, in_log_way, noted_way, full_way, lifting, kept_way}
use Rattle.arrivals.proofs.on_note.Goals as goal

pub returns-in_default : goal.returns-in_default
unfolding any pick case_at
returns-in_default c = handled_other 3 on_note _ _ _ _ _ (other_case 3 c.args.m refl (c.in_default.not-Note _))

pub first_entry-e-requires : goal.first_entry-e-requires
unfolding row_of
first_entry-e-requires c = (rw c.in-Note.is at c.requires, refl, refl)

pub log-requires : goal.log-requires
log-requires c = stands_midway c.requires.stands

pub returns-then-is_among : goal.returns-then-is_among
returns-then-is_among c = in_log_way _ _ _ _ _ _ c.requires c.in-Note.is _ c.first_entry-e.ensures _ (in_log _ _ c.first_entry-e.result _ c.log.ensures.1 c.is_among.ensures) c.if-is_among.true

pub is_noted-requires : goal.is_noted-requires
is_noted-requires c = (stands_midway c.requires.stands, from_below _ _ _ c.args.out.now _ _ c.requires c.in-Note.is)

pub returns-then-is_noted : goal.returns-then-is_noted
returns-then-is_noted c = noted_way _ _ _ _ _ _ c.requires c.in-Note.is _ c.first_entry-e.ensures _ (in_log _ _ c.first_entry-e.result _ c.log.ensures.1 c.is_among.ensures) c.if-is_among.false _ c.is_noted.ensures c.if-is_noted.true

pub room_for_note-requires : goal.room_for_note-requires
room_for_note-requires c = stands_midway c.requires.stands

pub returns-then-not-room_for_note : goal.returns-then-not-room_for_note
returns-then-not-room_for_note c = full_way _ _ _ _ _ _ c.requires c.in-Note.is _ c.first_entry-e.ensures _ (in_log _ _ c.first_entry-e.result _ c.log.ensures.1 c.is_among.ensures) c.if-is_among.false _ c.is_noted.ensures c.if-is_noted.false _ c.room_for_note.ensures (ap not c.if-not-room_for_note.true)

pub keep_and_lift-requires : goal.keep_and_lift-requires
keep_and_lift-requires c = (stands_midway c.requires.stands, lifting _ _ _ c.args.out.now _ _ c.requires c.in-Note.is _ c.first_entry-e.ensures _ (in_log _ _ c.first_entry-e.result _ c.log.ensures.1 c.is_among.ensures) c.if-is_among.false _ c.is_noted.ensures c.if-is_noted.false _ c.room_for_note.ensures (ap not c.if-not-room_for_note.false))

pub returns : goal.returns
returns c = kept_way _ _ _ _ _ _ c.requires c.in-Note.is _ c.first_entry-e.ensures _ (in_log _ _ c.first_entry-e.result _ c.log.ensures.1 c.is_among.ensures) c.if-is_among.false _ c.is_noted.ensures c.if-is_noted.false _ c.room_for_note.ensures _ (ap not c.if-not-room_for_note.false) c.keep_and_lift.ensures
