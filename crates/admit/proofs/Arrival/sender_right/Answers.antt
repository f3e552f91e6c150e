use Rattle.admit.proofs.Ways.{by_leader, by_member, by_other}
use Rattle.admit.proofs.Arrival.sender_right.Goals as goal

pub returns-in-OwnLeader : goal.returns-in-OwnLeader
returns-in-OwnLeader c = search by_leader

pub returns-in-OwnReplica : goal.returns-in-OwnReplica
returns-in-OwnReplica c = search by_member

pub returns-in-OtherLeader : goal.returns-in-OtherLeader
returns-in-OtherLeader c = search by_other
