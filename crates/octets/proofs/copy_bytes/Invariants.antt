use mathlib.Core.Path.{◌≡◌}
use Rattle.octets.specs.Bytes.{part, splice}
use Rattle.octets.proofs.copy_bytes.Given as goal

abbrev pub invariant-loop-i : goal.invariant-loop-i
invariant-loop-i l = l.dst ≡ splice l.initial.dst l.at (part l.src l.from l.i)
