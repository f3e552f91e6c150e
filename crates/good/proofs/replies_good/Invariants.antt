use Prim.Native.Nat.{◌+◌, ◌*◌}
use mathlib.Core.Bool.{true}
use mathlib.Core.Path.{◌≡◌}
use Rattle.rules.specs.Choice.{every, passes, below}
use Rattle.rules.specs.State.{reply_good}
use Rattle.rules.specs.Image.{reply_length, reply_at, state_of, at_replies}
use Rattle.places.specs.Layout.{start_of}
use Rattle.good.proofs.replies_good.Given as goal

abbrev pub invariant-loop-j : goal.invariant-loop-j
invariant-loop-j l = every (λ j. passes (reply_good l.shape (state_of l.shape l.state) j) (reply_at l.shape.c l.state (start_of l.shape at_replies + reply_length l.shape.c * j))) (below l.j) ≡ true
