use Rattle.syncs.proofs.Slow.{Told}
use Rattle.syncs.proofs.tell_synced.Given as goal

abbrev pub invariant-loop-i : goal.invariant-loop-i
invariant-loop-i l = Told l.fn.shape l.fn.state l.fn.message l.fn.log l.initial.out l.out l.at l.i
