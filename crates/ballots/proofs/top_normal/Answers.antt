use mathlib.Core.Path.{◌∙◌}
use Rattle.ballots.proofs.Votes.{votes_long}
use Rattle.ballots.proofs.Counting.{top_start, top_same, top_next, top_end}
use Rattle.ballots.proofs.top_normal.Goals as goal
use Rattle.ballots.proofs.top_normal.Goals.{in-Some, in_default}

pub loop-r-init : goal.loop-r-init
loop-r-init c = λ msg. top_start

pub loop-r-preserved : goal.loop-r-preserved
loop-r-preserved c =
    elim c.match-ballot_of.branch [
      | in-Some w ↦ λ msg. w.top-is ∙ w.max-top.ensures ∙ top_next _ _ _ _ (votes_long _ _ msg _ c.requires) c.loop-r-test.true (c.loop-r.invariant msg) _ (w.in-Some.ensures msg)
      | in_default w ↦ λ msg. w.top-is ∙ top_same _ _ _ _ (votes_long _ _ msg _ c.requires) c.loop-r-test.true (c.loop-r.invariant msg) (w.in_default.ensures msg)
    ]

pub returns : goal.returns
returns c = λ msg. top_end _ _ _ _ (votes_long _ _ msg _ c.requires) c.loop-r-test.false (c.loop-r.invariant msg)
