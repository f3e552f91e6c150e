use Prim.Native.Nat.{◌/◌, ◌≤◌}
use mathlib.Core.Path.{◌≡◌}
use lib.ListN.{length}
use Rattle.verify.specs.Asked.{asked_to}
use Rattle.verify.proofs.count_asked.Given as goal

abbrev pub invariant-loop-i : goal.invariant-loop-i
invariant-loop-i l = (l.asked ≤ l.i) × (l.asked ≡ length (asked_to l.boundary l.asker l.t l.i)) × (l.n ≡ length l.t / 24)
