use mathlib.Core.Bool.{true}
use mathlib.Core.Path.{◌≡◌}
use Rattle.octets.specs.Bytes.{items}
use Rattle.rules.specs.Choice.{every, passes}
use Rattle.rules.specs.State.{vote_good}
use Rattle.rules.specs.Image.{vote_length, vote_at, state_of, at_votes}
use Rattle.places.specs.Layout.{start_of}
use Rattle.good.proofs.votes_good.Given as goal

abbrev pub invariant-loop-r : goal.invariant-loop-r
invariant-loop-r l = every (passes (vote_good l.shape (state_of l.shape l.state))) (items (vote_at l.shape.c l.state) (vote_length l.shape.c) (start_of l.shape at_votes) l.r) ≡ true
