use native.Mathlib.Omega.{arith}
use Rattle.views.proofs.Cleared.{rows_within, rows_cleared}
use Rattle.views.proofs.clear_rows.Goals as goal

pub overflow_mul-size : goal.overflow_mul-size
overflow_mul-size c = omega (arith, rows_within c.args.size c.args.room c.args.at c.get32-count.result c.args.state.now c.requires.0 c.requires.1 c.get32-count.ensures, c.requires.0)

pub overflow_add-size : goal.overflow_add-size
overflow_add-size c = omega (arith, rows_within c.args.size c.args.room c.args.at c.get32-count.result c.args.state.now c.requires.0 c.requires.1 c.get32-count.ensures, c.requires.0)

pub fill_zero-requires : goal.fill_zero-requires
fill_zero-requires c = omega (arith, rows_within c.args.size c.args.room c.args.at c.get32-count.result c.args.state.now c.requires.0 c.requires.1 c.get32-count.ensures, c.requires.0)

pub returns : goal.returns
returns c = rows_cleared _ _ _ _ _ c.requires.0 c.requires.1 c.get32-count.ensures c.fill_zero.ensures
