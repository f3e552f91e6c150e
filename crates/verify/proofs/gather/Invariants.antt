use Prim.Native.Nat.{◌/◌}
use lib.ListN.{length}
use Rattle.verify.proofs.Asked.{Gathered}
use Rattle.verify.proofs.gather.Given as goal

abbrev pub invariant-loop-row : goal.invariant-loop-row
invariant-loop-row l = (goal.iterator-loop-row).can_next l.row-iterator × (goal.iterator-loop-row).is_finite l.row-iterator × Gathered l.boundary l.asker l.t l.initial.out l.at (length l.t / 24) l.out l.end (length l.yielded)
