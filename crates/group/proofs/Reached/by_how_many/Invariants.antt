use mathlib.Core.Path.{◌≡◌}
use Prim.Native.Nat.{◌≤◌}
use Rattle.rules.specs.Choice.{count}
use Rattle.rules.specs.Commit.{reached}
use Rattle.group.specs.Points.{points}
use Rattle.group.proofs.Reached.by_how_many.Given as goal

abbrev pub invariant-loop-i : goal.invariant-loop-i
invariant-loop-i l = record { few : l.sum ≤ l.i; counted : l.sum ≡ count (reached l.self.own l.self.len (points l.self.n l.self.heard.now) l.c) l.i }
