use Prim.Native.Nat.{◌≤◌}
use mathlib.Core.Path.{◌≡◌}
use Rattle.wire.proofs.Reader.{filled}
use Rattle.wire.proofs.decode.numbers_from.Given as goal

abbrev pub invariant-loop-i : goal.invariant-loop-i
invariant-loop-i l = (l.i ≤ l.count) × (l.numbers ≡ filled l.b l.at l.i)
