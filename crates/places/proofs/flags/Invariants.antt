use mathlib.Core.Path.{◌≡◌}
use mathlib.Core.Bool.{not}
use Prim.Native.Nat.{ℕ, ◌≤◌, ◌+◌, ◌*◌}
use lib.Dec.{eqb}
use Rattle.octets.specs.Bytes.{num}
use Rattle.rules.specs.Choice.{count}
use Rattle.places.proofs.flags.Given as goal

abbrev pub invariant-loop-i : goal.invariant-loop-i
invariant-loop-i l = record { few : l.sum ≤ l.i; counted : l.sum ≡ count (λ (j : ℕ). not (eqb (num l.state (l.at + l.size * j) 1) 0)) l.i }
