use Prim.Native.Nat.{◌≤◌, ◌^◌}
use mathlib.Core.List.{[]}
use mathlib.Core.Path.{◌≡◌}
use Rattle.rules.specs.Entry.{last_before}
use Rattle.rules.specs.Read.{entries_wrong}
use Rattle.rules.specs.Read.{all_right}
use Rattle.fields.specs.Parts.{fields_from, headed}
use Rattle.verdicts.specs.Rows.{row_in}
use Rattle.verdicts.proofs.entries_wrong.Given as goal

abbrev pub invariant-loop-i : goal.invariant-loop-i
invariant-loop-i l = (l.i ≤ l.limit) × (l.limit ≤ l.look.seen) × (l.from ≤ 2 ^ 32) × (l.last ≡ last_before (row_in l.b l.look.at) l.i) × (entries_wrong l.s (fields_from (headed l.h) [] (row_in l.b l.look.at)) l.look.whole l.i ≡ all_right)
