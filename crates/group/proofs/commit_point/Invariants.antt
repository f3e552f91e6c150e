use Prim.Native.Nat.{◌-◌}
use Rattle.group.specs.Points.{points}
use Rattle.group.proofs.Commit.{Between}
use Rattle.group.proofs.commit_point.Given as goal

abbrev pub invariant-loop-low : goal.invariant-loop-low
invariant-loop-low l = Between l.n l.own l.len (points l.n l.heard) l.before l.low l.high

abbrev pub decreases-loop-low : goal.decreases-loop-low
decreases-loop-low l = l.high - l.low
