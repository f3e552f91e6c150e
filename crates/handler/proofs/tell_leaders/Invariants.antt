use mathlib.Core.Path.{◌≡◌}
use Rattle.octets.specs.Bytes.{num}
use Rattle.handler.proofs.Leaders.{Written}
use Rattle.handler.proofs.tell_leaders.Given as goal

abbrev pub invariant-loop-j : goal.invariant-loop-j
invariant-loop-j l = (l.own ≡ num l.state 0 1) × Written l.shape l.state l.asking.kind l.asking.number l.mask l.entries l.initial.out l.out l.at l.j
