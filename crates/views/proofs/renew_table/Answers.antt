use Prim.Native.Nat.{◌+◌, ◌-◌, ◌*◌}
use native.Mathlib.Omega.{arith}
use Rattle.views.proofs.Cleared.{rows_within, renewed, renewed_shorter}
use Rattle.views.proofs.renew_table.Goals as goal

pub fill_zero-requires : goal.fill_zero-requires
fill_zero-requires c = omega (arith, rows_within 24 c.args.shape.c c.args.to c.get32-old.result c.args.state.now c.requires.0 c.requires.1 c.get32-old.ensures)

pub returns-then-number-old : goal.returns-then-number-old
returns-then-number-old c = let a = c.args in renewed_shorter _ _ a.at _ (a.at + 24 * a.number - a.at) _ _ a.src.now (λ i. (c.type_inv.src i).fits) c.requires.0 c.requires.1 c.requires.2 c.requires.3 c.get32-old.ensures (omega arith) _ _ c.put32.ensures c.copy_in.ensures c.if-number-old.true c.fill_zero.ensures

pub returns-else-number-old : goal.returns-else-number-old
returns-else-number-old c = let a = c.args in renewed _ _ a.at _ (a.at + 24 * a.number - a.at) _ _ a.src.now (λ i. (c.type_inv.src i).fits) c.requires.0 c.requires.1 c.requires.2 c.requires.3 c.get32-old.ensures (omega arith) _ _ c.put32.ensures c.copy_in.ensures c.if-number-old.false
