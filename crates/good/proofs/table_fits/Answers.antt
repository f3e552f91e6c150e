use Rattle.good.proofs.Tables.{in_order, in_any_order}
use Rattle.good.proofs.table_fits.Goals as goal

pub returns-then-ordered : goal.returns-then-ordered
returns-then-ordered c = in_order _ _ _ _ c.count_at-n.ensures _ _ _ _ _ c.if-ordered.true c.rise_from.ensures

pub returns : goal.returns
returns c = in_any_order _ _ _ _ c.count_at-n.ensures _ _ _ _ _ c.if-ordered.false c.all_fit.ensures
