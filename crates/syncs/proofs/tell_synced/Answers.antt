use Rattle.syncs.proofs.Slow.{told_none, told_more, told_done}
use borrow.Author.Rules.{rules}
use Rattle.syncs.proofs.tell_synced.Goals as goal

pub loop-i-init : goal.loop-i-init
loop-i-init c = told_none c.requires.0 _ _ c.get_sync-sync.ensures

pub loop-i-preserved : goal.loop-i-preserved
loop-i-preserved c = told_more c.requires.0 _ _ _ _ c.loop-i.invariant c.loop-i-test.true c.requires.1 _ _ c.tell_slow-at.ensures (search rules)

pub returns : goal.returns
returns c = told_done c.requires.0 _ _ _ _ c.loop-i.invariant c.loop-i-test.false
