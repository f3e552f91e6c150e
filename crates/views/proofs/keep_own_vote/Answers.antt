use native.Mathlib.Omega.{arith}
use Rattle.views.proofs.Kept.{own_room, own_kept}
use Rattle.views.proofs.keep_own_vote.Goals as goal

pub move_up-requires : goal.move_up-requires
move_up-requires c = let q = c.vote_place-place.ensures in let k = own_room c.args.shape c.args.state.now _ _ _ _ _ c.get32-count.result c.places_of-log.ensures.log c.requires.0.size c.get_normal.ensures c.get_sync.ensures c.get_replica.ensures q c.requires.2 c.requires.3 c.get32-count.ensures in omega (arith, q.at, q.within, k, c.places_of-log.ensures.log, c.requires.0.size)

pub returns : goal.returns
returns c = own_kept _ _ _ _ _ _ _ _ c.places_of-log.ensures.log c.requires.0.size c.get_normal.ensures c.get_sync.ensures c.get_replica.ensures c.vote_place-place.ensures c.requires.2 c.requires.3 c.get32-count.ensures _ _ c.begin_vote.ensures c.move_up.ensures
