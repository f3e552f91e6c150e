use Rattle.places.proofs.Sections.{stands_midway}
use Rattle.places.proofs.Midway.{table_count}
use Rattle.arrivals.proofs.Lifting.{early_sorted}
use Rattle.arrivals.proofs.TakeWays.{early_full, early_taken, late_full, late_taken}
use Rattle.arrivals.proofs.follower_takes.Goals as goal

pub early-requires : goal.early-requires
early-requires c = stands_midway c.requires

pub returns-then-shape-count : goal.returns-then-shape-count
returns-then-shape-count c = early_full _ _ _ _ _ c.may_follow.ensures c.if-may_follow.true _ (table_count c.early.ensures.0 c.early.ensures.1 c.count.ensures) c.if-shape-count.true

pub add_early-requires : goal.add_early-requires
add_early-requires c = (stands_midway c.requires, rw (table_count c.early.ensures.0 c.early.ensures.1 c.count.ensures) at c.if-shape-count.false, early_sorted c.requires)

pub returns-then-may_follow : goal.returns-then-may_follow
returns-then-may_follow c = early_taken _ _ _ _ _ c.may_follow.ensures c.if-may_follow.true _ (table_count c.early.ensures.0 c.early.ensures.1 c.count.ensures) c.if-shape-count.false _ c.add_early.ensures

pub late-requires : goal.late-requires
late-requires c = stands_midway c.requires

pub returns-then-shape-count-2 : goal.returns-then-shape-count-2
returns-then-shape-count-2 c = late_full _ _ _ _ _ c.may_follow.ensures c.if-may_follow.false _ (table_count c.late.ensures.0 c.late.ensures.1 c.count-2.ensures) c.if-shape-count-2.true

pub add_late-requires : goal.add_late-requires
add_late-requires c = (stands_midway c.requires, rw (table_count c.late.ensures.0 c.late.ensures.1 c.count-2.ensures) at c.if-shape-count-2.false)

pub returns : goal.returns
returns c = late_taken _ _ _ _ _ c.may_follow.ensures c.if-may_follow.false _ (table_count c.late.ensures.0 c.late.ensures.1 c.count-2.ensures) c.if-shape-count-2.false _ c.add_late.ensures
