use native.Mathlib.Omega.{arith}
use Rattle.places.proofs.Sections.{stands_midway, midway_sized}
use Rattle.stamps.proofs.Stamps.{last_low, raised_due, raised_lifted}
use Rattle.stamps.proofs.raised.Goals as goal

pub last_entry-last-requires : goal.last_entry-last-requires
last_entry-last-requires c = midway_sized (stands_midway c.requires)

pub returns-then-before : goal.returns-then-before
returns-then-before c = raised_due _ _ _ c.last_entry-last.ensures _ c.before-2.ensures c.if-before.true

pub overflow_add-last : goal.overflow_add-last
overflow_add-last c = omega (arith, last_low _ _ c.requires _ c.last_entry-last.ensures)

pub returns : goal.returns
returns c = raised_lifted _ _ _ c.last_entry-last.ensures _ c.before-2.ensures c.if-before.false _ c.stamped.ensures
