use native.Mathlib.Omega.{arith}
use Rattle.good.proofs.Tables.{rows_are}
use Rattle.good.proofs.rows_fit.Goals as goal

pub returns : goal.returns
returns c = rows_are _ c.args.b.now c.args.at _ c.count_at-n.ensures _ _ _ (λ i. (c.type_inv.b i).fits) (omega arith) c.rows_fit.ensures
