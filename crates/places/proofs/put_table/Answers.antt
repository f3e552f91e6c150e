use Prim.Native.Nat.{◌+◌, ◌-◌}
use native.Mathlib.Omega.{arith}
use Rattle.rules.specs.Image.{table_length}
use Rattle.places.proofs.Writes.{lent_long, table_home}
use borrow.Author.Rules.{rules}
use Rattle.places.proofs.put_table.Goals as goal

pub overflow_add-end : goal.overflow_add-end
overflow_add-end c = let e = c.places_of.ensures.table in search rules

-- LEFT part-take-over-end : slice-bounds-take-over-end
-- let e = c.before.places_of.ensures.table in search rules

pub take_over-requires : goal.take_over-requires
take_over-requires c = let a = c.args in let t = c.places_of.result.table in (lent_long a.state.now a.to (a.to + t - a.to) (table_length a.shape.c) (omega (arith, c.places_of.ensures.table)) c.requires.1, search rules, search rules, search rules)

pub returns : goal.returns
returns c = let a = c.args in let t = c.places_of.result.table in table_home a.state.now _ a.to (a.to + t - a.to) a.shape.c _ c.take_over.ensures (omega (arith, c.places_of.ensures.table))
