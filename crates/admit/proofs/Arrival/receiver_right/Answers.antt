use Rattle.admit.proofs.Cells.{leader_viewed, follower_viewed}
use borrow.Author.Rules.{rules}
use Rattle.admit.proofs.Arrival.receiver_right.Goals as goal

pub leads_here-requires : goal.leads_here-requires
leads_here-requires c = search (rules, leader_viewed)

pub leads_here-requires-in-AFollower : goal.leads_here-requires-in-AFollower
leads_here-requires-in-AFollower c = search (rules, follower_viewed)
