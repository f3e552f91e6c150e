use Prim.Native.Nat.{◌+◌, ◌-◌, ◌*◌}
use native.Mathlib.Omega.{arith}
use Rattle.form.proofs.Parts.{table_lent}
use Rattle.form.proofs.table_form.Goals as goal

pub returns : goal.returns
returns c = table_lent _ _ _ c.requires.0 (c.args.at + (4 + 24 * c.args.c) - c.args.at) _ (omega arith) c.table_good.ensures
