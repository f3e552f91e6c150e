use mathlib.Core.Path.{◌≡◌}
use Rattle.octets.specs.Bytes.{part, splice}
use Rattle.octets.proofs.down_bytes.Given as goal

abbrev pub invariant-loop-i : goal.invariant-loop-i
invariant-loop-i l = l.s ≡ splice l.initial.s l.to (part l.initial.s l.from l.i)
