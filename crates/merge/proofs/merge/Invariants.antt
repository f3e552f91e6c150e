use mathlib.Core.Path.{◌≡◌}
use lib.ListN.{length}
use Rattle.rules.specs.Image.{state_of}
use Rattle.entries.specs.Table.{Holds}
use Rattle.merge.specs.Merged.{replies_with}
use Rattle.entries.specs.Rows.{Found}
use Rattle.merge.proofs.Turns.{merged_to}
use Rattle.merge.proofs.merge.Given as goal

abbrev pub invariant-loop-j : goal.invariant-loop-j
invariant-loop-j l = Holds l.shape.c (merged_to (state_of l.shape l.state).change.draft (replies_with l.shape l.state l.message l.reply) l.j) l.scratch × Found (merged_to (state_of l.shape l.state).change.draft (replies_with l.shape l.state l.message l.reply) l.j) l.slots × (length l.slots ≡ length l.initial.slots)
