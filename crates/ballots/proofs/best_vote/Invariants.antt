use Prim.Native.Nat.{ℕ}
use mathlib.Core.List.{List}
use Rattle.ballots.specs.Ballots.{votes_in, BestTo}
use Rattle.ballots.proofs.best_vote.Given as goal

abbrev pub invariant-loop-r : goal.invariant-loop-r
invariant-loop-r l = (msg : List ℕ) → BestTo l.shape.n (votes_in l.shape l.state msg l.cast) l.top l.r l.best
