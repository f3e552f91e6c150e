use Prim.Native.Nat.{◌≤◌}
use mathlib.Core.Path.{◌≡◌}
use lib.ListN.{length}
use Rattle.rules.specs.Choice.{keep, below}
use Rattle.handler.proofs.Leaders.{other_in}
use Rattle.handler.proofs.count_others.Given as goal

abbrev pub invariant-loop-j : goal.invariant-loop-j
invariant-loop-j l = (l.count ≤ l.j) × (l.count ≡ length (keep (other_in l.state l.mask) (below l.j)))
