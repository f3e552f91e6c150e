use mathlib.Core.Path.{◌∙◌}
use native.Mathlib.Omega.{arith}
use Rattle.handler.proofs.Told.{ready_first}
use Rattle.handler.proofs.first_entry.Goals as goal

pub entry_at-requires : goal.entry_at-requires
entry_at-requires c = omega (arith, c.entries_at.ensures, (ready_first _ _ _ _ c.requires.0 _ c.requires.1 c.requires.2).0)

pub returns : goal.returns
returns c = let e = c.entries_at.ensures.0 in c.entry_at.ensures ∙ rw e (ready_first _ _ _ _ c.requires.0 _ c.requires.1 c.requires.2).1
