use Rattle.std.proofs.Common.{sym, arith}
use Rattle.repeats.specs.Rows.{count_of, key_of}
use Rattle.hashed.proofs.Table.{find_out, find_free, find_row}
use Rattle.hashed.proofs.find.Goals as goal

pub returns-in_err-p : goal.returns-in_err-p
returns-in_err-p c = rw c.from_residual.ensures (find_out (key_of c.args.b.now c.args.sp) (count_of c.args.sp) c.args.table.now c.requires.3 c.args.x _ (sym c.in_err-p.ensures) (omega arith))

pub returns-then-e-count : goal.returns-then-e-count
returns-then-e-count c = (omega arith, find_row (key_of c.args.b.now c.args.sp) (count_of c.args.sp) c.args.table.now c.requires.3 c.args.x c.in_ok-p.p c.row-e.result c.in_ok-p.ensures.0 c.in_ok-p.ensures.2 c.row-e.ensures.0 (omega arith))

pub returns-else-e-count : goal.returns-else-e-count
returns-else-e-count c = omega (arith, find_free (key_of c.args.b.now c.args.sp) (count_of c.args.sp) c.args.table.now c.requires.3 c.args.x c.in_ok-p.p c.row-e.result c.in_ok-p.ensures.0 c.in_ok-p.ensures.2 c.row-e.ensures.0 (omega arith))
