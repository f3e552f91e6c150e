use mathlib.Core.Bool.{not}
use mathlib.Core.Path.{ap}
use Rattle.early.proofs.Entries.{not_placed, when_placed}
use Rattle.early.proofs.chosen.Goals as goal

pub returns-then-not-is_placed : goal.returns-then-not-is_placed
returns-then-not-is_placed c = not_placed _ _ _ _ c.is_placed.ensures (ap not c.if-not-is_placed.true)

pub returns : goal.returns
returns c = when_placed _ _ _ _ c.is_placed.ensures (ap not c.if-not-is_placed.false) _ c.is_listed.ensures
