use mathlib.Core.Path.{◌≡◌}
use lib.ListN.{length}
use Rattle.rules.specs.Image.{table_at}
use Rattle.entries.specs.Rows.{Found}
use Rattle.entries.specs.Table.{Holds}
use Rattle.merge.proofs.Taking.{first_in}
use Rattle.merge.proofs.take_all.Given as goal

abbrev pub invariant-loop-i : goal.invariant-loop-i
invariant-loop-i l = (length l.t ≡ length l.initial.t) × (length l.slots ≡ length l.initial.slots) × Holds l.c (first_in (table_at l.c l.initial.t 0) l.src l.at l.i) l.t × Found (first_in (table_at l.c l.initial.t 0) l.src l.at l.i) l.slots
