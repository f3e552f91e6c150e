use mathlib.Core.Path.{refl}
use Rattle.octets.proofs.Laws.{bytes_known}
use Rattle.rules.specs.Choice.{any, pick}
use Rattle.rules.specs.Wire.{case_at}
use Rattle.rules.specs.Step.{on_vote}
use Rattle.handler.proofs.Closes.{handled_other}
use Rattle.handler.proofs.OtherKind.{other_case}
use Rattle.votes.proofs.VoteWays.{vote_counted, vote_sender, vote_second, vote_past, vote_kept, vote_few, vote_enough}
use Rattle.votes.proofs.on_vote.Goals as goal

pub returns-in_default : goal.returns-in_default
unfolding any pick case_at
returns-in_default c = handled_other 8 on_vote _ _ _ _ _ (other_case 8 c.args.m refl (c.in_default.not-Vote _ _ _))

pub is_second-requires : goal.is_second-requires
is_second-requires c = vote_sender _ _ c.args.message.now c.args.out.now c.args.m _ _ _ c.requires.0 c.in-Vote.is (bytes_known c.args.message.now (λ i. (c.type_inv.message i).fits)) _ _ c.entries_at.ensures.0 c.get_view.ensures

pub returns-then-is_second : goal.returns-then-is_second
returns-then-is_second c = vote_second _ _ c.args.message.now c.args.out.now c.args.m _ _ _ c.requires.0 c.in-Vote.is (bytes_known c.args.message.now (λ i. (c.type_inv.message i).fits)) _ _ c.entries_at.ensures.0 c.get_view.ensures _ c.is_second.ensures c.if-is_second.true

pub get32-number-requires : goal.get32-number-requires
get32-number-requires c = vote_counted _ _ c.args.message.now c.args.out.now c.args.m _ _ _ c.requires.0 c.in-Vote.is (bytes_known c.args.message.now (λ i. (c.type_inv.message i).fits)) _ _ c.entries_at.ensures.0 c.get_view.ensures

pub returns-then-shape-number : goal.returns-then-shape-number
returns-then-shape-number c = vote_past _ _ c.args.message.now c.args.out.now c.args.m _ _ _ c.requires.0 c.in-Vote.is (bytes_known c.args.message.now (λ i. (c.type_inv.message i).fits)) _ _ c.entries_at.ensures.0 c.get_view.ensures _ c.is_second.ensures c.if-is_second.false _ c.get32-number.ensures c.if-shape-number.true

pub count_with-requires : goal.count_with-requires
count_with-requires c = vote_sender _ _ c.args.message.now c.args.out.now c.args.m _ _ _ c.requires.0 c.in-Vote.is (bytes_known c.args.message.now (λ i. (c.type_inv.message i).fits)) _ _ c.entries_at.ensures.0 c.get_view.ensures

pub keep_vote-requires : goal.keep_vote-requires
keep_vote-requires c = vote_kept _ _ c.args.message.now c.args.out.now c.args.m _ _ _ c.requires.0 c.in-Vote.is (bytes_known c.args.message.now (λ i. (c.type_inv.message i).fits)) _ _ c.entries_at.ensures.0 c.get_view.ensures _ c.is_second.ensures c.if-is_second.false _ c.get32-number.ensures c.if-shape-number.false

pub returns-then-count_with-majority : goal.returns-then-count_with-majority
returns-then-count_with-majority c = vote_few _ _ c.args.message.now c.args.out.now c.args.m _ _ _ c.requires.0 c.in-Vote.is (bytes_known c.args.message.now (λ i. (c.type_inv.message i).fits)) _ _ c.entries_at.ensures.0 c.get_view.ensures _ c.is_second.ensures c.if-is_second.false _ c.get32-number.ensures c.if-shape-number.false _ _ c.count_with.ensures c.majority.ensures _ c.if-count_with-majority.true c.keep_vote.ensures

pub conclude-requires : goal.conclude-requires
conclude-requires c = (vote_kept _ _ c.args.message.now c.args.out.now c.args.m _ _ _ c.requires.0 c.in-Vote.is (bytes_known c.args.message.now (λ i. (c.type_inv.message i).fits)) _ _ c.entries_at.ensures.0 c.get_view.ensures _ c.is_second.ensures c.if-is_second.false _ c.get32-number.ensures c.if-shape-number.false, c.requires.1)

pub returns : goal.returns
returns c = vote_enough _ _ c.args.message.now c.args.out.now c.args.m _ _ _ c.requires.0 c.in-Vote.is (bytes_known c.args.message.now (λ i. (c.type_inv.message i).fits)) _ _ c.entries_at.ensures.0 c.get_view.ensures _ c.is_second.ensures c.if-is_second.false _ c.get32-number.ensures c.if-shape-number.false _ _ c.count_with.ensures c.majority.ensures _ c.if-count_with-majority.false c.conclude.ensures
