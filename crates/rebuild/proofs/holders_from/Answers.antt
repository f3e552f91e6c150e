use native.Mathlib.Omega.{arith}
use Rattle.ballots.proofs.Votes.{votes_long}
use Rattle.rebuild.proofs.Holders.{holders_more, holders_same, holders_end}
use Rattle.rebuild.proofs.holders_from.Goals as goal
use Rattle.rebuild.proofs.holders_from.Goals.{else-holds_at, then-holds_at}

pub loop-r-init : goal.loop-r-init
loop-r-init c = (omega arith, omega arith)

pub holds_at-requires : goal.holds_at-requires
holds_at-requires c = (c.requires.0, c.loop-r-test.true)

pub loop-r-preserved : goal.loop-r-preserved
loop-r-preserved c = elim c.if-holds_at.branch [ then-holds_at w ↦ (omega arith, holders_more _ _ c.args.e _ _ _ _ c.args.votes.shape.n (votes_long _ _ _ _ c.requires.0.given.sent) c.loop-r-test.true c.loop-r.invariant.1 _ c.holds_at.ensures w.if-holds_at.true w.sum-is) | else-holds_at w ↦ (omega arith, holders_same _ _ c.args.e _ _ _ _ c.args.votes.shape.n (votes_long _ _ _ _ c.requires.0.given.sent) c.loop-r-test.true c.loop-r.invariant.1 _ c.holds_at.ensures w.if-holds_at.false w.sum-is) ]

pub returns : goal.returns
returns c = holders_end _ _ c.args.e _ _ _ (c.loop-r.auto.r-end c.requires.1) c.loop-r-test.false c.loop-r.invariant.1
