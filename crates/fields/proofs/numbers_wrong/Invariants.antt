use Prim.Native.Nat.{◌≤◌, ◌^◌}
use mathlib.Core.Path.{◌≡◌}
use Rattle.rules.specs.Read.{first_wrong, number_rows}
use Rattle.rules.specs.Read.{all_right}
use Rattle.fields.specs.Parts.{fields_of}
use Rattle.fields.proofs.numbers_wrong.Given as goal

abbrev pub invariant-loop-i : goal.invariant-loop-i
invariant-loop-i l = (l.i ≤ l.count) × (l.count ≤ 2 ^ 32) × (l.from ≤ 2 ^ 32) × (first_wrong (number_rows l.s (fields_of l.p l.numbers) l.i) ≡ all_right)
