use Prim.Native.Nat.{◌≤◌}
use mathlib.Core.Path.{◌≡◌}
use lib.ListN.{length, take}
use Rattle.rules.specs.Choice.{keep}
use Rattle.rules.specs.Image.{table_at}
use Rattle.early.specs.Listed.{indexed, chosen}
use Rattle.early.proofs.count_chosen.Given as goal

abbrev pub invariant-loop-i : goal.invariant-loop-i
invariant-loop-i l = (l.n ≡ length (table_at l.c l.t 0)) × (l.found ≤ l.i) × (l.found ≡ length (keep (chosen (indexed l.index) l.which) (take l.i (table_at l.c l.t 0))))
