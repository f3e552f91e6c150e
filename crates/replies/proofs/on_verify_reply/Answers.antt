use mathlib.Core.Path.{refl}
use native.Mathlib.Omega.{arith}
use Rattle.rules.specs.Choice.{any, pick}
use Rattle.rules.specs.Wire.{case_at}
use Rattle.rules.specs.Step.{on_verify_reply}
use Rattle.handler.proofs.Closes.{handled_other}
use Rattle.handler.proofs.OtherKind.{other_case}
use Rattle.places.proofs.Sections.{stands_midway}
use Rattle.views.proofs.Cleared.{replies_stand}
use Rattle.replies.proofs.Kept.{counted_few}
use Rattle.replies.proofs.Ways.{from_below, reply_views, replied, reply_counted, reply_stands, reply_past, reply_kept, reply_last}
use Rattle.replies.proofs.on_verify_reply.Goals as goal

pub returns-in_default : goal.returns-in_default
unfolding any pick case_at
returns-in_default c = handled_other 19 on_verify_reply _ _ _ _ _ (other_case 19 c.args.m refl (c.in_default.not-VerifyReply _))

pub reply_flag-requires : goal.reply_flag-requires
reply_flag-requires c = (record { fits = c.requires.0.stands.fits; size = c.requires.0.stands.size }, from_below _ _ _ c.args.out.now _ _ c.requires.0 c.in-VerifyReply.is)

pub returns-then-reply_flag : goal.returns-then-reply_flag
returns-then-reply_flag c = replied _ _ _ _ _ _ c.requires.0 c.in-VerifyReply.is _ c.reply_flag.ensures c.if-reply_flag.true

pub get32-number-requires : goal.get32-number-requires
get32-number-requires c = reply_counted _ _ _ c.args.out.now _ _ c.requires.0 c.in-VerifyReply.is _ c.entries_at-at.ensures.0

pub returns-then-shape-number : goal.returns-then-shape-number
returns-then-shape-number c = reply_past _ _ _ _ _ _ c.requires.0 c.in-VerifyReply.is _ c.entries_at-at.ensures.0 _ c.get32-number.ensures _ c.reply_flag.ensures c.if-reply_flag.false c.if-shape-number.true

pub overflow_add-held_replies : goal.overflow_add-held_replies
overflow_add-held_replies c = let k = counted_few _ _ _ c.held_replies.ensures in omega (arith, c.requires.0.stands.fits.few)

pub keep_reply-requires : goal.keep_reply-requires
keep_reply-requires c = let l = from_below _ _ _ c.args.out.now _ _ c.requires.0 c.in-VerifyReply.is in (record { fits = c.requires.0.stands.fits; size = c.requires.0.stands.size }, l, replies_stand (stands_midway c.requires.0.stands) _ l, c.if-shape-number.false, reply_stands _ _ _ c.args.out.now _ _ c.requires.0 c.in-VerifyReply.is _ c.entries_at-at.ensures.0 _ c.get32-number.ensures)

pub returns-then-held_replies-shape : goal.returns-then-held_replies-shape
returns-then-held_replies-shape c = reply_kept _ _ _ _ _ _ c.requires.0 c.in-VerifyReply.is _ c.entries_at-at.ensures.0 _ c.get32-number.ensures _ c.reply_flag.ensures c.if-reply_flag.false c.if-shape-number.false _ c.held_replies.ensures _ c.if-held_replies-shape.true c.keep_reply.ensures

pub start_merged-requires : goal.start_merged-requires
start_merged-requires c = (c.requires.0.stands, reply_views _ _ _ c.args.out.now _ _ c.requires.0 c.in-VerifyReply.is, reply_stands _ _ _ c.args.out.now _ _ c.requires.0 c.in-VerifyReply.is _ c.entries_at-at.ensures.0 _ c.get32-number.ensures, c.requires.1)

pub returns : goal.returns
returns c = reply_last _ _ _ _ _ _ c.requires.0 c.in-VerifyReply.is _ c.entries_at-at.ensures.0 _ c.get32-number.ensures _ c.reply_flag.ensures c.if-reply_flag.false c.if-shape-number.false _ c.held_replies.ensures _ c.if-held_replies-shape.false c.start_merged.ensures
