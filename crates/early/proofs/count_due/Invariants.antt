use mathlib.Core.Path.{◌≡◌}
use lib.ListN.{length}
use Rattle.rules.specs.Image.{table_at}
use Rattle.early.proofs.Leading.{Passed}
use Rattle.early.proofs.count_due.Given as goal

abbrev pub invariant-loop-k : goal.invariant-loop-k
invariant-loop-k l = (l.n ≡ length (table_at l.c l.t 0)) × Passed l.time (table_at l.c l.t 0) l.k
