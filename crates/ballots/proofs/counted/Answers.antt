use borrow.Author.Rules.{rules}
use Rattle.ballots.proofs.Counting.{counts_told}
use Rattle.ballots.proofs.counted.Goals as goal

pub returns : goal.returns
returns c = λ msg. counts_told c.args.top _ c.ballot_of.result c.is_some_and.result (c.ballot_of.ensures msg) (search rules)
