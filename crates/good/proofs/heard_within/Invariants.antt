use mathlib.Core.Path.{◌≡◌}
use mathlib.Core.Bool.{◌&&◌, ◌||◌, not}
use lib.Dec.{leb}
use Rattle.octets.specs.Bytes.{items}
use Rattle.rules.specs.Choice.{every, passes}
use Rattle.rules.specs.Image.{point_at, at_heard}
use Rattle.places.specs.Layout.{start_of}
use Rattle.good.proofs.Heads.{points_form}
use Rattle.good.proofs.heard_within.Given as goal

abbrev pub invariant-loop-i : goal.invariant-loop-i
invariant-loop-i l = (l.formed ≡ points_form l.state (start_of l.shape at_heard) l.i) × (l.within ≡ every (passes (λ p. not l.asked || (l.leading && leb p l.most))) (items (point_at l.state) 9 (start_of l.shape at_heard) l.i))
