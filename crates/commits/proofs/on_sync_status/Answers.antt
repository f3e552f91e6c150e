use mathlib.Core.Path.{refl}
use native.Mathlib.Omega.{arith}
use Rattle.rules.specs.Choice.{any, pick}
use Rattle.rules.specs.Wire.{case_at}
use Rattle.rules.specs.Step.{on_sync_status}
use Rattle.handler.proofs.Closes.{handled_other}
use Rattle.handler.proofs.OtherKind.{other_case}
use Rattle.commits.proofs.StatusWays.{from_below, not_news, past_log, no_room, kept}
use borrow.Author.Rules.{rules}
use Rattle.commits.proofs.on_sync_status.Goals as goal

pub returns-in_default : goal.returns-in_default
unfolding any pick case_at
returns-in_default c = handled_other 10 on_sync_status _ _ _ _ _ (other_case 10 c.args.m refl (c.in_default.not-SyncStatus _ _))

pub is_stale-requires : goal.is_stale-requires
is_stale-requires c = (search rules, from_below _ _ _ c.args.out.now _ _ _ c.requires c.in-SyncStatus.is)

pub returns-then-is_stale : goal.returns-then-is_stale
returns-then-is_stale c = not_news _ _ _ _ _ _ _ c.requires c.in-SyncStatus.is _ c.is_stale.ensures c.if-is_stale.true

pub returns-then-len-point : goal.returns-then-len-point
returns-then-len-point c = past_log _ _ _ _ _ _ _ c.requires c.in-SyncStatus.is _ c.is_stale.ensures c.if-is_stale.false _ c.log_length-len.ensures.0 c.if-len-point.true

pub returns-then-out-length_for : goal.returns-then-out-length_for
returns-then-out-length_for c = no_room _ _ _ _ _ _ _ c.requires c.in-SyncStatus.is _ c.is_stale.ensures c.if-is_stale.false _ c.log_length-len.ensures.0 c.if-len-point.false _ c.length_for.ensures c.if-out-length_for.true

pub keep_status-commit-requires : goal.keep_status-commit-requires
keep_status-commit-requires c = (search rules, from_below _ _ _ c.args.out.now _ _ _ c.requires c.in-SyncStatus.is)

pub tell_commit-sent-requires : goal.tell_commit-sent-requires
tell_commit-sent-requires c = (search rules, omega (arith, from_below c.args.shape c.args.state.now c.args.message.now c.args.out.now c.args.m _ _ c.requires c.in-SyncStatus.is, c.requires.stands.fits.most), search rules)

pub returns : goal.returns
returns c = kept _ _ _ _ _ _ _ c.requires c.in-SyncStatus.is _ c.is_stale.ensures c.if-is_stale.false _ c.log_length-len.ensures.0 c.if-len-point.false _ _ _ _ _ c.length_for.ensures c.if-out-length_for.false c.keep_status-commit.ensures.0 c.keep_status-commit.ensures.1 c.tell_commit-sent.ensures.0 c.tell_commit-sent.ensures.1
