use mathlib.Core.Bool.{not}
use mathlib.Core.Path.{ap}
use native.Mathlib.Omega.{arith}
use Rattle.repeats.proofs.Laws.{first_start, first_pass, first_stop, first_end}
use Rattle.logs.proofs.Place.{unfit_row, from_start, from_next}
use Rattle.logs.proofs.first_unfit.Goals as goal

pub loop-i-init : goal.loop-i-init
loop-i-init c = (from_start _ _, first_start _)

pub returns-then-not-fits_after : goal.returns-then-not-fits_after
returns-then-not-fits_after c = first_stop _ c.loop-i.i _ c.loop-i.invariant.1 (unfit_row _ _ _ _ _ c.loop-i.i _ _ _ _ c.entry_at-e.ensures c.loop-i.invariant.0 c.fits_after.ensures (ap not c.if-not-fits_after.true)) (omega arith)

pub loop-i-preserved : goal.loop-i-preserved
loop-i-preserved c = (from_next _ _ c.loop-i.i _ c.entry_at-e.ensures, first_pass _ c.loop-i.i c.loop-i.invariant.1 (unfit_row _ _ _ _ _ c.loop-i.i _ _ _ _ c.entry_at-e.ensures c.loop-i.invariant.0 c.fits_after.ensures (ap not c.if-not-fits_after.false)))

pub returns : goal.returns
returns c = first_end _ c.loop-i.i _ c.loop-i.invariant.1 (omega arith) (omega arith)
