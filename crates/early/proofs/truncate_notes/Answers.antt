use native.Mathlib.Omega.{arith}
use Rattle.early.proofs.Noted.{end_within, truncate_law, end_at}
use Rattle.early.proofs.truncate_notes.Goals as goal

pub overflow_sub-place : goal.overflow_sub-place
overflow_sub-place c = omega (arith, end_within c.requires.0 _ c.requires.1, end_at c.requires.0 _ _ c.count-m.ensures c.place.ensures.0)

pub fill_zero-requires : goal.fill_zero-requires
fill_zero-requires c = omega (arith, end_within c.requires.0 _ c.requires.1, end_at c.requires.0 _ _ c.count-m.ensures c.place.ensures.0)

pub returns : goal.returns
returns c = truncate_law c.requires.0 _ _ _ _ _ _ c.requires.1 c.count-m.ensures c.place-from.ensures.0 c.place.ensures.0 c.fill_zero.ensures c.put32.ensures
