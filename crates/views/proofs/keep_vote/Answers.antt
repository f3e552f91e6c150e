use Prim.Native.Nat.{◌+◌, ◌≤◌}
use native.Mathlib.Omega.{arith}
use lib.ListN.{length}
use Rattle.views.proofs.Kept.{begun_long, table_behind, vote_kept}
use Rattle.views.proofs.keep_vote.Goals as goal

pub renew_table-requires : goal.renew_table-requires
renew_table-requires c = let t = table_behind _ _ _ _ _ 13 _ c.requires.2 c.vote_place-place.ensures.at (begun_long _ _) c.begin_vote.ensures in (t.0, t.1, c.requires.3, c.requires.4, c.requires.0.fits.small)

pub returns : goal.returns
returns c = let h : c.vote_place-place.result + 13 ≤ length c.args.state.now = omega (arith, c.vote_place-place.ensures.within, c.requires.0.size) in vote_kept _ _ _ _ _ _ _ _ _ h c.vote_place-place.ensures.at c.begin_vote.ensures c.renew_table.ensures
