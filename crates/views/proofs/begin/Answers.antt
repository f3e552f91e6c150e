use Prim.Native.Nat.{◌*◌}
use native.Mathlib.Omega.{arith}
use Rattle.octets.proofs.Laws.{bytes_known}
use Rattle.places.proofs.Sections.{stands_midway}
use Rattle.places.proofs.Spots.{zeroed}
use Rattle.views.proofs.Begun.{begun_room, begun_spare, begun}
use Rattle.views.proofs.begin.Goals as goal

pub empty_tables-requires : goal.empty_tables-requires
empty_tables-requires c = stands_midway c.requires.0

pub renew_table-requires : goal.renew_table-requires
renew_table-requires c = let p = c.places_of-layout in let w = zeroed _ _ p.result.heard p.result.log _ (9 * c.args.shape.n) c.fill_zero.ensures p.ensures.heard (omega (arith, p.ensures.log)) in let k = bytes_known c.args.message.now (λ i. (c.type_inv.message i).fits) in (begun_room c.requires.0 _ c.args.message.now k c.requires.1 c.args.src.now c.args.at _ _ c.requires.2 p.ensures.log c.empty_tables.ensures c.take_view.ensures c.begin_head.ensures w, begun_spare c.requires.0 _ c.args.message.now k c.requires.1 c.args.src.now c.args.at _ _ c.requires.2 p.ensures.log c.empty_tables.ensures c.take_view.ensures c.begin_head.ensures w, c.requires.2, c.requires.3, c.requires.0.fits.small)

pub returns : goal.returns
returns c = let p = c.places_of-layout in let w = zeroed _ _ p.result.heard p.result.log _ (9 * c.args.shape.n) c.fill_zero.ensures p.ensures.heard (omega (arith, p.ensures.log)) in begun c.requires.0 _ c.args.message.now (bytes_known c.args.message.now (λ i. (c.type_inv.message i).fits)) c.requires.1 c.args.src.now _ _ _ c.requires.2 p.ensures.log c.empty_tables.ensures c.take_view.ensures c.begin_head.ensures w c.renew_table.ensures
