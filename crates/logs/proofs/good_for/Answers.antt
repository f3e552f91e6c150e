use mathlib.Core.Bool.{not}
use mathlib.Core.Path.{ap}
use native.Mathlib.Omega.{arith}
use Rattle.logs.proofs.Place.{run_inside}
use Rattle.logs.proofs.Apart.{unfit_for, fit_for}
use Rattle.logs.proofs.good_for.Goals as goal

pub returns-then-not-rows_fit : goal.returns-then-not-rows_fit
returns-then-not-rows_fit c = unfit_for c.args.b.now c.args.at _ (λ i. (c.type_inv.b i).fits) c.requires _ _ _ _ c.rows_fit.ensures (ap not c.if-not-rows_fit.true)

pub index-requires : goal.index-requires
index-requires c = run_inside _ _ _ _ _ (omega arith) c.requires (omega arith) c.entry_spots.ensures

pub returns : goal.returns
returns c = fit_for c.args.b.now c.args.at _ (λ i. (c.type_inv.b i).fits) c.requires _ _ _ _ _ _ c.rows_fit.ensures (ap not c.if-not-rows_fit.false) c.entry_spots.ensures c.index.ensures.0
