use mathlib.Core.Bool.{not}
use mathlib.Core.Path.{ap}
use Rattle.good.proofs.Heads.{vote_unset, vote_is}
use Rattle.good.proofs.vote_good.Goals as goal

pub returns-then-not-vote_flag : goal.returns-then-not-vote_flag
returns-then-not-vote_flag c = vote_unset _ _ c.requires.0.size _ _ c.vote_flag.ensures (ap not c.if-not-vote_flag.true)

pub returns : goal.returns
returns c = vote_is _ _ c.requires.0.size _ _ c.vote_flag.ensures (ap not c.if-not-vote_flag.false) _ _ _ _ _ _ _ c.vote_place-at.ensures c.count_at-count.ensures c.vote_sync-sync.ensures c.vote_normal-normal.ensures c.get_view-view.ensures c.get_group.ensures c.log_good-log.ensures
