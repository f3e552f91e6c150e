use mathlib.Core.Path.{refl}
use Rattle.rules.specs.Image.{table_at}
use Rattle.entries.proofs.Sorting.{sorted_rises}
use Rattle.early.proofs.put.Goals as goal

pub insert_in_order-requires : goal.insert_in_order-requires
insert_in_order-requires c = (c.requires.0, c.requires.1, sorted_rises _ _ (table_at c.args.c c.args.t.now 0) _ refl (λ k l. refl) c.requires.2)
