use mathlib.Core.Path.{refl}
use Rattle.ballots.specs.Ballots.{votes_in}
use Rattle.ballots.proofs.Votes.{votes_long}
use Rattle.ballots.proofs.Counting.{best_start, best_next, best_end}
use Rattle.ballots.proofs.best_vote.Goals as goal

pub loop-r-init : goal.loop-r-init
loop-r-init c = λ msg. best_start c.args.shape.n c.args.top (votes_in c.args.shape c.args.state.now msg c.args.cast)

pub loop-r-preserved : goal.loop-r-preserved
loop-r-preserved c = λ msg. rw c.better-best.ensures (best_next _ _ _ _ _ (votes_long _ _ msg _ c.requires) c.loop-r-test.true (c.loop-r.invariant msg) _ _ refl (c.ballot_of.ensures msg))

pub returns : goal.returns
returns c = λ msg. best_end _ _ _ _ _ c.loop-r.auto.r-end c.loop-r-test.false (c.loop-r.invariant msg)
