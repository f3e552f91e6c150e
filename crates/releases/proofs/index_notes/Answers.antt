use native.Mathlib.Omega.{arith}
use Rattle.rows.proofs.Slots.{unserved}
use Rattle.releases.proofs.index_notes.Goals as goal

pub returns-then-due-le8 : goal.returns-then-due-le8
returns-then-due-le8 c = record { indexed = unserved _ _ _ (omega (arith, c.mark_none.ensures)) }
