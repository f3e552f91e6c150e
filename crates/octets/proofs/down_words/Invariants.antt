use Prim.Native.Nat.{◌≤◌, ◌%◌}
use mathlib.Core.Path.{◌≡◌}
use Rattle.octets.specs.Bytes.{part, splice}
use Rattle.octets.proofs.down_words.Given as goal

abbrev pub invariant-loop-i : goal.invariant-loop-i
invariant-loop-i l = record { whole : l.i % 8 ≡ 0; within : l.i ≤ l.n; moved : l.s ≡ splice l.initial.s l.to (part l.initial.s l.from l.i) }
