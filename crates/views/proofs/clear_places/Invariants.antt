use Prim.Native.Nat.{◌*◌}
use mathlib.Core.Path.{◌≡◌}
use lib.ListN.{length, replicate}
use Rattle.octets.specs.Bytes.{splice}
use Rattle.views.proofs.clear_places.Given as goal

abbrev pub invariant-loop-i : goal.invariant-loop-i
invariant-loop-i l = (length l.state ≡ length l.initial.state) × (l.state ≡ splice l.initial.state l.at (replicate (l.size * l.i) 0))
