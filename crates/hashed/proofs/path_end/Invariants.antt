use Rattle.std.proofs.Common.{◌≡◌, ◌+◌, ◌-◌}
use Rattle.repeats.specs.Rows.{count_of, key_of}
use Rattle.hashed.specs.Table.{stop, slot_at}
use Rattle.hashed.proofs.path_end.Given as goal

abbrev pub invariant-loop-p : goal.invariant-loop-p
invariant-loop-p l = stop (key_of l.b l.sp) (count_of l.sp) l.table l.x l.p (l.start + 64 - l.p) ≡ slot_at (key_of l.b l.sp) (count_of l.sp) l.table l.x
