use Prim.Native.Nat.{◌≤◌, ◌+◌, ◌*◌}
use Rattle.repeats.specs.Rows.{count_of, key_of}
use Rattle.hashed.specs.Table.{Holds, Empty}
use Rattle.hashed.proofs.Table.{Only}
use Rattle.hashed.proofs.lay.Given as goal

abbrev pub invariant-loop-i : goal.invariant-loop-i
invariant-loop-i l = record {
  passed : l.passed ≤ 1024 + 3 * l.i;
  held : Holds (key_of l.b l.sp) (count_of l.sp) l.table l.i;
  only : Empty l.initial.table → Only (count_of l.sp) l.table l.i;
}
