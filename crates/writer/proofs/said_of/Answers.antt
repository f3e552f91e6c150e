use Rattle.writer.specs.Said.{said_next}
use Rattle.writer.proofs.Writer.{count_said, few_said, said_none, said_one, said_two, said_three, room_first, room_second, room_third}
use Rattle.writer.proofs.said_of.Goals as goal

pub and_number-requires : goal.and_number-requires
and_number-requires c = search (room_first, room_second, room_third)

pub and_number-requires-in-Transaction : goal.and_number-requires-in-Transaction
and_number-requires-in-Transaction c = search (room_first, room_second, room_third)

pub and_number-requires-in-FastReply : goal.and_number-requires-in-FastReply
and_number-requires-in-FastReply c = search (room_first, room_second, room_third)

pub and_number-requires-in-FastReply-2 : goal.and_number-requires-in-FastReply-2
and_number-requires-in-FastReply-2 c = search (room_first, room_second, room_third)

pub and_number-requires-in-FastReply-3 : goal.and_number-requires-in-FastReply-3
and_number-requires-in-FastReply-3 c = search (room_first, room_second, room_third)

pub and_number-requires-in-SlowReply : goal.and_number-requires-in-SlowReply
and_number-requires-in-SlowReply c = search (room_first, room_second, room_third)

pub and_number-requires-in-Vote : goal.and_number-requires-in-Vote
and_number-requires-in-Vote c = search (room_first, room_second, room_third)

pub and_number-requires-in-Vote-2 : goal.and_number-requires-in-Vote-2
and_number-requires-in-Vote-2 c = search (room_first, room_second, room_third)

pub and_number-requires-in-SyncStatus : goal.and_number-requires-in-SyncStatus
and_number-requires-in-SyncStatus c = search (room_first, room_second, room_third)

pub and_number-requires-in-Commit : goal.and_number-requires-in-Commit
and_number-requires-in-Commit c = search (room_first, room_second, room_third)

pub and_number-requires-in-VerifyRequest : goal.and_number-requires-in-VerifyRequest
and_number-requires-in-VerifyRequest c = search (room_first, room_second, room_third)

pub and_number-requires-in-Tick : goal.and_number-requires-in-Tick
and_number-requires-in-Tick c = search (room_first, room_second, room_third)

pub returns-in-WrongSizes : goal.returns-in-WrongSizes
unfolding said_next
returns-in-WrongSizes c = search (count_said, few_said c.args.m, said_none, said_one, said_two, said_three)

pub returns-in-Malformed : goal.returns-in-Malformed
unfolding said_next
returns-in-Malformed c = search (count_said, few_said c.args.m, said_none, said_one, said_two, said_three)

pub returns-in-Transaction : goal.returns-in-Transaction
unfolding said_next
returns-in-Transaction c = search (count_said, few_said c.args.m, said_none, said_one, said_two, said_three)

pub returns-in-Note : goal.returns-in-Note
unfolding said_next
returns-in-Note c = search (count_said, few_said c.args.m, said_none, said_one, said_two, said_three)

pub returns-in-ReplicaSync : goal.returns-in-ReplicaSync
unfolding said_next
returns-in-ReplicaSync c = search (count_said, few_said c.args.m, said_none, said_one, said_two, said_three)

pub returns-in-FastReply : goal.returns-in-FastReply
unfolding said_next
returns-in-FastReply c = search (count_said, few_said c.args.m, said_none, said_one, said_two, said_three)

pub returns-in-SlowReply : goal.returns-in-SlowReply
unfolding said_next
returns-in-SlowReply c = search (count_said, few_said c.args.m, said_none, said_one, said_two, said_three)

pub returns-in-ChangeView : goal.returns-in-ChangeView
unfolding said_next
returns-in-ChangeView c = search (count_said, few_said c.args.m, said_none, said_one, said_two, said_three)

pub returns-in-Vote : goal.returns-in-Vote
unfolding said_next
returns-in-Vote c = search (count_said, few_said c.args.m, said_none, said_one, said_two, said_three)

pub returns-in-StartView : goal.returns-in-StartView
unfolding said_next
returns-in-StartView c = search (count_said, few_said c.args.m, said_none, said_one, said_two, said_three)

pub returns-in-SyncStatus : goal.returns-in-SyncStatus
unfolding said_next
returns-in-SyncStatus c = search (count_said, few_said c.args.m, said_none, said_one, said_two, said_three)

pub returns-in-Commit : goal.returns-in-Commit
unfolding said_next
returns-in-Commit c = search (count_said, few_said c.args.m, said_none, said_one, said_two, said_three)

pub returns-in-VerifyRequest : goal.returns-in-VerifyRequest
unfolding said_next
returns-in-VerifyRequest c = search (count_said, few_said c.args.m, said_none, said_one, said_two, said_three)

pub returns-in-VerifyReply : goal.returns-in-VerifyReply
unfolding said_next
returns-in-VerifyReply c = search (count_said, few_said c.args.m, said_none, said_one, said_two, said_three)

pub returns-in-Tick : goal.returns-in-Tick
unfolding said_next
returns-in-Tick c = search (count_said, few_said c.args.m, said_none, said_one, said_two, said_three)
