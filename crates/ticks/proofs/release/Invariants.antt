use mathlib.Core.Path.{◌≡◌}
use mathlib.Core.List.{◌++◌}
use lib.ListN.{take}
use Rattle.rules.specs.Digest.{digest}
use Rattle.rules.specs.Image.{state_of}
use Rattle.rules.specs.Early.{due_of}
use Rattle.ticks.proofs.Turns.{Appended}
use Rattle.ticks.proofs.release.Given as goal

abbrev pub invariant-loop-i : goal.invariant-loop-i
invariant-loop-i l = Appended l.shape l.initial.state l.initial.out l.time l.i l.at l.state l.out × (l.sum ≡ digest ((state_of l.shape l.initial.state).logged.log ++ take l.i (due_of l.time (state_of l.shape l.initial.state).waiting.early)))
