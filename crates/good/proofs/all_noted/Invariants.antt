use Prim.Native.Nat.{◌+◌, min}
use mathlib.Core.Path.{◌≡◌}
use mathlib.Core.Bool.{true}
use Rattle.octets.specs.Bytes.{num, items}
use Rattle.rules.specs.Choice.{every}
use Rattle.rules.specs.Read.{entry_at}
use Rattle.notes.specs.Notes.{notes_at}
use Rattle.good.specs.Known.{noted_right}
use Rattle.good.proofs.all_noted.Given as goal

abbrev pub invariant-loop-i : goal.invariant-loop-i
invariant-loop-i l = (l.n ≡ min (num l.b l.at 4) l.c) × (every (noted_right l.s (notes_at l.c l.s l.t) l.k) (items (entry_at l.b) 24 (l.at + 4) l.i) ≡ true)
