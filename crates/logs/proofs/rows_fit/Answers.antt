use mathlib.Core.Path.{ap}
use Prim.Native.Nat.{ℕ}
use lib.Dec.{eqb}
use Rattle.logs.proofs.Place.{first_none}
use Rattle.logs.proofs.rows_fit.Goals as goal

pub returns : goal.returns
returns c = ap (λ (x : ℕ). eqb x c.args.count) (first_none _ _ _ _ _ _ _ c.no_entry.ensures c.first_unfit.ensures)
