use Prim.Native.Nat.{◌≤◌, ◌%◌, ◌-◌}
use mathlib.Core.Bool.{true}
use mathlib.Core.Path.{◌≡◌}
use Rattle.octets.specs.Bytes.{part, zeros}
use Rattle.octets.proofs.zero_blocks.Given as goal

abbrev pub invariant-loop-i : goal.invariant-loop-i
invariant-loop-i l = (l.i % 128 ≡ l.n % 128) × (l.i ≤ l.n) × (zeros (part l.s l.at l.i) ≡ true)

abbrev pub decreases-loop-i : goal.decreases-loop-i
decreases-loop-i l = l.n - l.i
