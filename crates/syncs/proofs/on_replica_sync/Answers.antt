use mathlib.Core.Path.{refl}
use Rattle.rules.specs.Choice.{any, pick}
use Rattle.rules.specs.Wire.{case_at}
use Rattle.rules.specs.Step.{on_replica_sync}
use Rattle.handler.proofs.Closes.{handled_other}
use Rattle.handler.proofs.OtherKind.{other_case}
use Rattle.syncs.proofs.Ways.{place_inside, not_longer, too_long, coming, list_asked, handled_so}
use Rattle.syncs.proofs.on_replica_sync.Goals as goal

pub returns-in_default : goal.returns-in_default
unfolding any pick case_at
returns-in_default c = handled_other 4 on_replica_sync _ _ _ _ _ (other_case 4 c.args.m refl (c.in_default.not-ReplicaSync _))

pub get32-count-requires : goal.get32-count-requires
get32-count-requires c = place_inside _ _ _ c.args.out.now _ _ c.requires c.in-ReplicaSync.is _ c.entries_at-place.ensures.0

pub returns-then-count-get_sync : goal.returns-then-count-get_sync
returns-then-count-get_sync c = not_longer _ _ _ _ _ _ c.requires c.in-ReplicaSync.is _ _ c.entries_at-place.ensures.0 c.get32-count.ensures _ c.get_sync.ensures c.if-count-get_sync.true

pub returns-then-shape-count : goal.returns-then-shape-count
returns-then-shape-count c = too_long _ _ _ _ _ _ c.requires c.in-ReplicaSync.is _ _ c.entries_at-place.ensures.0 c.get32-count.ensures _ c.get_sync.ensures c.if-count-get_sync.false c.if-shape-count.true

pub list-requires : goal.list-requires
list-requires c = list_asked (coming _ _ _ c.args.out.now _ _ c.requires c.in-ReplicaSync.is _ _ c.entries_at-place.ensures.0 c.get32-count.ensures _ c.get_sync.ensures c.if-count-get_sync.false c.if-shape-count.false)

pub sync_by-requires : goal.sync_by-requires
sync_by-requires c = (coming _ _ _ c.args.out.now _ _ c.requires c.in-ReplicaSync.is _ _ c.entries_at-place.ensures.0 c.get32-count.ensures _ c.get_sync.ensures c.if-count-get_sync.false c.if-shape-count.false, c.list.ensures)

pub returns : goal.returns
returns c = handled_so _ _ _ _ _ _ c.requires c.in-ReplicaSync.is _ _ c.entries_at-place.ensures.0 c.get32-count.ensures _ c.get_sync.ensures c.if-count-get_sync.false c.if-shape-count.false _ c.sync_by.ensures
