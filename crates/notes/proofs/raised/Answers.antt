use native.Mathlib.Omega.{arith}
use Rattle.notes.proofs.Points.{not_in_mask, in_mask}
use Rattle.notes.proofs.raised.Goals as goal

pub returns-then-not-held : goal.returns-then-not-held
returns-then-not-held c = not_in_mask _ _ _ _ c.if-not-held.true

pub returns-in-Some : goal.returns-in-Some
returns-in-Some c = in_mask _ _ _ _ c.if-not-held.false _ _ c.in-Some.ensures c.max.ensures

pub returns-in-None : goal.returns-in-None
returns-in-None c = in_mask _ _ _ _ c.if-not-held.false _ _ c.in-None.ensures (omega arith)
