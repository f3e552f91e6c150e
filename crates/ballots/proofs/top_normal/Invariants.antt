use Prim.Native.Nat.{ℕ}
use mathlib.Core.Path.{◌≡◌}
use mathlib.Core.List.{List}
use lib.ListN.{take}
use Rattle.rules.specs.Rebuild.{top_from}
use Rattle.ballots.specs.Ballots.{votes_in}
use Rattle.ballots.proofs.top_normal.Given as goal

abbrev pub invariant-loop-r : goal.invariant-loop-r
invariant-loop-r l = (msg : List ℕ) → l.top ≡ top_from 0 (take l.r (votes_in l.shape l.state msg l.cast))
