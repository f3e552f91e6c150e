use native.Mathlib.Omega.{arith}
use mathlib.Core.Path.{refl}
use lib.ListN.{length}
use Rattle.rules.specs.Entry.{entry_of}
use Rattle.rules.specs.Image.{table_at}
use Rattle.entries.proofs.Sorting.{sorted_rises}
use Rattle.rebuild.proofs.Added.{entry_passed, entry_full, entry_added}
use Rattle.rebuild.proofs.add_entry.Goals as goal

pub returns-then-not-new : goal.returns-then-not-new
returns-then-not-new c = entry_passed _ c.args.e _ _ refl _ c.requires.0 c.if-not-new.true-raw

pub returns-then-c-count : goal.returns-then-c-count
returns-then-c-count c = entry_full _ c.args.e _ _ refl _ _ _ c.requires.0 c.if-not-new.false-raw c.count.ensures c.if-c-count.true

pub insert_in_order-requires : goal.insert_in_order-requires
insert_in_order-requires c = let es = table_at c.args.c c.args.table.now 0 in (c.requires.0, omega arith, sorted_rises (entry_of es) c.args.e es (length es) refl (λ k _. refl) c.requires.1)

pub returns : goal.returns
returns c = entry_added _ c.args.e _ _ refl _ _ c.if-not-new.false-raw c.insert_in_order.ensures
