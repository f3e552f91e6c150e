use mathlib.Core.Path.{◌≡◌}
use Rattle.repeats.specs.Rows.{key_of}
use Rattle.repeats.specs.Repeat.{row_of}
use Rattle.repeats.proofs.search.Given as goal

abbrev pub invariant-loop-i : goal.invariant-loop-i
invariant-loop-i l = row_of (key_of l.b l.sp) l.x l.i ≡ l.i
