use Rattle.octets.proofs.Laws.{put_one}
use borrow.Author.Rules.{rules}
use Rattle.octets.proofs.put8.Goals as goal

pub returns : goal.returns
returns c = search (rules, put_one)
