use mathlib.Core.Path.{◌≡◌}
use lib.ListN.{length}
use Rattle.rules.specs.Image.{table_at}
use Rattle.entries.specs.Table.{Table}
use Rattle.early.specs.Listed.{indexed, chosen}
use Rattle.early.proofs.Sifting.{Sifted}
use Rattle.early.proofs.leave.Given as goal

abbrev pub invariant-loop-i : goal.invariant-loop-i
invariant-loop-i l = (l.n ≡ length (table_at l.c l.initial.t 0)) × (length l.t ≡ length l.initial.t) × Table l.c l.t × Sifted (chosen (indexed l.index) l.which) (table_at l.c l.initial.t 0) l.i l.kept (table_at l.c l.t 0)
