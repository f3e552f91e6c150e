use Prim.Native.Nat.{◌+◌, ◌≤◌}
use native.Mathlib.Omega.{arith}
use lib.ListN.{length}
use Rattle.octets.proofs.Laws.{length_le}
use Rattle.views.proofs.Kept.{table_behind, reply_kept}
use Rattle.views.proofs.keep_reply.Goals as goal

pub renew_table-requires : goal.renew_table-requires
renew_table-requires c = let t = table_behind _ _ _ _ _ 1 _ c.requires.2 c.reply_place-place.ensures.at (length_le 1 1) c.put8.ensures in (t.0, t.1, c.requires.3, c.requires.4, c.requires.0.fits.small)

pub returns : goal.returns
returns c = let h : c.reply_place-place.result + 1 ≤ length c.args.state.now = omega (arith, c.reply_place-place.ensures.within, c.requires.0.size) in reply_kept _ _ _ _ _ _ _ h c.reply_place-place.ensures.at c.put8.ensures c.renew_table.ensures
