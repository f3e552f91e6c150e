use mathlib.Core.Path.{◌≡◌}
use mathlib.Core.List.{◌++◌}
use lib.ListN.{length, take}
use Rattle.rules.specs.Choice.{keep}
use Rattle.early.specs.Listed.{indexed, chosen}
use Rattle.early.specs.declared.Which.TheVariants.{NotAfter}
use Rattle.early.specs.Buffers.{BothHold, early_in, late_in}
use Rattle.early.proofs.fall_late.Given as goal

abbrev pub invariant-loop-i : goal.invariant-loop-i
invariant-loop-i l = (l.n ≡ length (early_in l.c l.initial.t)) × (length l.t ≡ length l.initial.t) × BothHold l.c (early_in l.c l.initial.t) (late_in l.c l.initial.t ++ keep (chosen (indexed l.index) (NotAfter l.last)) (take l.i (early_in l.c l.initial.t))) l.t
