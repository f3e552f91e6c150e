use native.Mathlib.Omega.{arith}
use Rattle.arrivals.proofs.TakeWays.{notes_small, notes_long}
use Rattle.arrivals.proofs.notes_length.Goals as goal

pub overflow_mul-result : goal.overflow_mul-result
overflow_mul-result c = omega (arith, notes_small _ _ _ c.requires.fits.few c.length_for.ensures c.count_others-others.ensures.1)

pub returns : goal.returns
returns c = notes_long c.requires c.args.e _ _ c.length_for.ensures c.count_others-others.ensures.0
