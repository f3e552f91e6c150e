use native.Mathlib.Omega.{arith}
use Prim.Native.Nat.{◌-◌}
use Rattle.repeats.specs.Rows.{count_of, key_of}
use Rattle.rows.proofs.Slots.{served_part, served_wider}
use Rattle.rows.proofs.add_to_table.Goals as goal

pub lay-reached-requires : goal.lay-reached-requires
lay-reached-requires c = let w = served_part (key_of c.args.b.now c.args.sp) ((count_of c.args.sp) - 1) c.row-size.result c.args.slots.now c.requires.4 c.requires.3 c.row-size.ensures.0 c.row-size.ensures.1 in (c.requires.0, w.0, w.1, omega arith, omega arith, served_wider (key_of c.args.b.now c.args.sp) ((count_of c.args.sp) - 1) c.row-size.result c.args.slots.now c.requires.4 c.requires.3 c.row-size.ensures.0 (count_of c.args.sp) _ (omega arith) (omega arith))
