use Rattle.rules.specs.Image.{state_of}
use Rattle.entries.proofs.Table.{is_table}
use Rattle.merge.specs.Merged.{replies_with}
use Rattle.merge.proofs.Rows.{read_found}
use Rattle.merge.proofs.Turns.{replies_long, merge_start, merge_again, merge_rows, merge_full, merge_end}
use borrow.Author.Rules.{rules}
use Rattle.merge.proofs.merge.Goals as goal

pub loop-j-init : goal.loop-j-init
loop-j-init c = let k = merge_start (state_of c.args.shape c.args.state.now).change.draft (replies_with c.args.shape c.args.state.now c.args.message.now c.args.reply) _ _ _ c.take_draft.ensures in (k.0, k.1, search rules)

pub take_reply-requires : goal.take_reply-requires
take_reply-requires c = (c.requires.0, c.loop-j-test.true, c.requires.1, is_table _ _ _ c.loop-j.invariant.0, read_found _ _ _ _ c.loop-j.invariant.0 c.loop-j.invariant.1)

pub returns-then-not-take_reply : goal.returns-then-not-take_reply
returns-then-not-take_reply c = merge_full _ _ _ (replies_long c.requires.0 _ _) _ _ _ c.loop-j.invariant.0 c.loop-j-test.true _ _ c.take_reply.ensures.taken c.if-not-take_reply.true

pub loop-j-preserved : goal.loop-j-preserved
loop-j-preserved c = (merge_again _ (replies_with c.args.shape c.args.state.now c.args.message.now c.args.reply) _ (replies_long c.requires.0 _ _) _ _ _ c.loop-j.invariant.0 c.loop-j-test.true _ _ c.take_reply.ensures.taken c.if-not-take_reply.false, merge_rows _ (replies_with c.args.shape c.args.state.now c.args.message.now c.args.reply) _ (replies_long c.requires.0 _ _) _ _ _ c.loop-j.invariant.0 c.loop-j-test.true _ _ c.take_reply.ensures.taken _ (c.take_reply.ensures.found c.if-not-take_reply.false), search rules)

pub order-requires : goal.order-requires
order-requires c = is_table _ _ _ c.loop-j.invariant.0

pub returns : goal.returns
returns c = merge_end _ _ _ (replies_long c.requires.0 _ _) _ _ _ c.loop-j.invariant.0 c.loop-j-test.false _ c.order.ensures
