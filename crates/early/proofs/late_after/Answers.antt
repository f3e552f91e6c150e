use native.Mathlib.Omega.{arith}
use Rattle.early.proofs.Buffers.{first_asked, last_asked, counted, counted_fits}
use Rattle.early.proofs.late_after.Goals as goal

pub count_chosen-stay-requires : goal.count_chosen-stay-requires
count_chosen-stay-requires c = (last_asked c.requires.0, c.requires.1)

pub count_chosen-requires : goal.count_chosen-requires
count_chosen-requires c = (first_asked c.requires.0, c.requires.1)

pub overflow_add-result : goal.overflow_add-result
overflow_add-result c = omega (arith, counted_fits _ _ c.requires.0 _ _ c.count_chosen-stay.ensures c.count_chosen.ensures)

pub returns : goal.returns
returns c = counted _ _ c.requires.0 _ _ c.count_chosen-stay.ensures c.count_chosen.ensures
