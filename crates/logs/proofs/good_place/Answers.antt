use native.Mathlib.Omega.{arith}
use Rattle.logs.proofs.Place.{run_inside, fit_low, good_run, first_none}
use Rattle.logs.proofs.good_place.Goals as goal

pub index-requires : goal.index-requires
index-requires c = run_inside _ _ _ _ _ (omega arith) c.requires (fit_low _ _ _ _ _ _ (first_none _ _ _ _ _ _ _ c.no_entry.ensures c.first_unfit-fit.ensures)) c.entry_spots.ensures

pub returns : goal.returns
returns c = good_run _ _ c.args.b.now c.args.at _ _ _ _ (λ i. (c.type_inv.b i).fits) c.requires (first_none _ _ _ _ _ _ _ c.no_entry.ensures c.first_unfit-fit.ensures) c.entry_spots.ensures c.index.ensures.0
