use Prim.Native.Nat.{◌^◌, ◌<◌}
use native.Mathlib.Omega.{arith}
use native.Mathlib.Nat.{mul-le-mul}
use Rattle.octets.proofs.Laws.{bytes_known}
use Rattle.votes.proofs.Came.{draft_free}
use Rattle.votes.proofs.AskWays.{ask_need, ask_short, ask_tells, ask_sent}
use borrow.Author.Rules.{rules}
use Rattle.votes.proofs.ask_all.Goals as goal

pub overflow_mul-length_for : goal.overflow_mul-length_for
overflow_mul-length_for c = omega (arith, mul-le-mul (ask_need c.args.shape.s c.length_for.result c.requires.0.given.sent.stands.fits.few c.length_for.ensures) c.count_others-count.ensures.1)

pub returns-then-out-length_for : goal.returns-then-out-length_for
returns-then-out-length_for c = let v : c.args.cast.view < 256 ^ 4 = c.requires.0.wide in ask_short _ _ c.args.message.now c.args.cast.view c.args.cast c.requires.0 (bytes_known c.args.message.now (λ i. (c.type_inv.message i).fits)) v _ c.args.table.now c.requires.1 _ _ _ c.all_groups-mask.ensures c.count_others-count.ensures.0 _ c.length_for.ensures c.if-out-length_for.true

pub take_draft-requires : goal.take_draft-requires
take_draft-requires c = let v : c.args.cast.view < 256 ^ 4 = c.requires.0.wide in (search rules, draft_free _ _ c.args.message.now c.args.cast.view c.args.cast c.requires.0 (bytes_known c.args.message.now (λ i. (c.type_inv.message i).fits)) v _ c.keep_vote.ensures, c.requires.1)

pub tell_all-sent-requires : goal.tell_all-sent-requires
tell_all-sent-requires c = let v : c.args.cast.view < 256 ^ 4 = c.requires.0.wide in (search rules, ask_tells _ _ c.args.message.now c.args.cast.view c.args.cast c.requires.0 (bytes_known c.args.message.now (λ i. (c.type_inv.message i).fits)) v c.args.out.now c.args.table.now c.requires.1 _ _ _ c.all_groups-mask.ensures c.count_others-count.ensures.0 _ c.length_for.ensures c.if-out-length_for.false _ _ c.keep_vote.ensures c.take_draft.ensures)

pub returns : goal.returns
returns c = let v : c.args.cast.view < 256 ^ 4 = c.requires.0.wide in ask_sent _ _ c.args.message.now c.args.cast.view c.args.cast c.requires.0 (bytes_known c.args.message.now (λ i. (c.type_inv.message i).fits)) v _ c.args.table.now c.requires.1 _ _ _ c.all_groups-mask.ensures c.count_others-count.ensures.0 _ c.length_for.ensures c.if-out-length_for.false _ _ c.keep_vote.ensures c.take_draft.ensures _ _ c.tell_all-sent.ensures.0 c.tell_all-sent.ensures.1
