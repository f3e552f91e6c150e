use native.Mathlib.Omega.{arith}
use Rattle.places.proofs.Sections.{stands_midway}
use Rattle.places.proofs.Head.{sync_of}
use Rattle.syncs.proofs.Slow.{product}
use Rattle.syncs.proofs.slow_length.Goals as goal

pub overflow_sub-result : goal.overflow_sub-result
overflow_sub-result c = omega (arith, c.requires.past, sync_of (stands_midway c.requires.stands), c.get_sync-sync.ensures)

pub overflow_mul-result : goal.overflow_mul-result
overflow_mul-result c = omega (arith, (product c.requires _ _ c.get_sync-sync.ensures c.length_for.ensures).0)

pub returns : goal.returns
returns c = (product c.requires _ _ c.get_sync-sync.ensures c.length_for.ensures).1
