use native.Mathlib.Omega.{arith}
use Rattle.rooms.proofs.Ordering.{not_orderable, is_orderable, order_midway, early_lent, early_ordered}
use Rattle.rooms.proofs.order.Goals as goal

pub returns-then-not-orderable : goal.returns-then-not-orderable
returns-then-not-orderable c = not_orderable _ _ _ c.orderable.ensures c.if-not-orderable.true-raw

pub places_of-layout-requires : goal.places_of-layout-requires
places_of-layout-requires c = (order_midway _ _ (is_orderable _ _ _ c.orderable.ensures c.if-not-orderable.false-raw)).fits

pub slice_bounds-order-end : goal.slice_bounds-order-end
slice_bounds-order-end c = omega (arith, (order_midway _ _ (is_orderable _ _ _ c.orderable.ensures c.if-not-orderable.false-raw)).size)

pub order-requires : goal.order-requires
order-requires c = early_lent _ _ (is_orderable _ _ _ c.orderable.ensures c.if-not-orderable.false-raw) _ _ c.places_of-layout.ensures.early c.places_of-layout.ensures.late

pub returns : goal.returns
returns c = early_ordered _ _ (is_orderable _ _ _ c.orderable.ensures c.if-not-orderable.false-raw) _ _ c.places_of-layout.ensures.early c.places_of-layout.ensures.late _ c.order.ensures
