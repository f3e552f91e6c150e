use Prim.Native.Nat.{◌≤◌, ◌-◌}
use mathlib.Core.Path.{◌≡◌}
use lib.ListN.{length, take}
use Rattle.octets.specs.Bytes.{le, flat, splice}
use Rattle.writer.proofs.put_numbers.Given as goal

abbrev pub invariant-loop-i : goal.invariant-loop-i
invariant-loop-i l = (l.i ≤ length l.numbers) × (length l.out ≡ length l.initial.out) × (l.out ≡ splice l.initial.out l.at (flat (le 8) (take l.i l.numbers)))
