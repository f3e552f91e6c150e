use borrow.Author.Rules.{rules}
use Rattle.ballots.proofs.Counting.{better_none, better_more, better_same}
use Rattle.ballots.proofs.better.Goals as goal

pub returns-in_default : goal.returns-in_default
returns-in_default c = better_none _ _ _ _ c.in_default.is

pub returns-then-ballot-top : goal.returns-then-ballot-top
returns-then-ballot-top c = better_more _ _ c.map_or-most.result c.args.best _ c.in-Some.ballot c.in-Some.is (search rules) c.if-ballot-top.true

pub returns : goal.returns
returns c = better_same _ c.args.r c.map_or-most.result c.args.best _ c.in-Some.ballot c.in-Some.is (search rules) c.if-ballot-top.false
