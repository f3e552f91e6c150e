use mathlib.Core.Path.{refl}
use Rattle.rules.specs.Choice.{any, pick}
use Rattle.rules.specs.Wire.{case_at}
use Rattle.rules.specs.Step.{on_commit}
use Rattle.handler.proofs.Closes.{handled_other}
use Rattle.handler.proofs.OtherKind.{other_case}
use Rattle.commits.proofs.CommitWays.{not_above, not_synced, taken}
use Rattle.commits.proofs.on_commit.Goals as goal

pub returns-in_default : goal.returns-in_default
unfolding any pick case_at
returns-in_default c = handled_other 11 on_commit _ _ _ _ _ (other_case 11 c.args.m refl (c.in_default.not-Commit _ _))

pub returns-then-point-get_commit : goal.returns-then-point-get_commit
returns-then-point-get_commit c = not_above _ _ _ _ _ _ _ c.requires c.in-Commit.is _ c.get_commit.ensures c.if-point-get_commit.true

pub returns-then-get_sync-point : goal.returns-then-get_sync-point
returns-then-get_sync-point c = not_synced _ _ _ _ _ _ _ c.requires c.in-Commit.is _ _ c.get_commit.ensures c.if-point-get_commit.false c.get_sync.ensures c.if-get_sync-point.true

pub returns : goal.returns
returns c = taken _ _ _ _ _ _ _ c.requires c.in-Commit.is _ _ _ c.get_commit.ensures c.if-point-get_commit.false c.get_sync.ensures c.if-get_sync-point.false c.put_commit.ensures
