use Prim.Native.Nat.{◌+◌}
use mathlib.Core.Path.{◌≡◌}
use Rattle.notes.proofs.Tested.{good_points, heard_points}
use Rattle.notes.proofs.note_good.Given as goal

abbrev pub invariant-loop-j : goal.invariant-loop-j
invariant-loop-j l = (l.fine ≡ good_points l.t (l.at + 6) l.j) × (l.heard ≡ heard_points l.t (l.at + 6) l.j)
