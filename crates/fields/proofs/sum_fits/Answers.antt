use mathlib.Core.Path.{sym}
use native.Mathlib.Omega.{arith}
use Prim.Native.Nat.{◌+◌}
use Rattle.fields.proofs.Rows.{too_late}
use Rattle.fields.proofs.sum_fits.Goals as goal

pub returns-then-t-gt-LATEST : goal.returns-then-t-gt-LATEST
returns-then-t-gt-LATEST c = sym (too_late (c.args.t + c.args.bound) (omega arith))

pub returns-then-t-bound : goal.returns-then-t-bound
returns-then-t-bound c = sym (too_late (c.args.t + c.args.bound) (omega arith))
