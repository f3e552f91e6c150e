use Rattle.rules.specs.Choice.{pick}
use Rattle.rules.specs.Step.{handle}
use Rattle.dispatch.proofs.Handled.{taken, voted, replied, none_takes}
use Rattle.dispatch.proofs.handle.Goals as goal

pub returns-in-WrongSizes : goal.returns-in-WrongSizes
unfolding handle pick
returns-in-WrongSizes c = search (taken, voted, replied, none_takes)

pub returns-in-Malformed : goal.returns-in-Malformed
unfolding handle pick
returns-in-Malformed c = search (taken, voted, replied, none_takes)

pub returns-in-FastReply : goal.returns-in-FastReply
unfolding handle pick
returns-in-FastReply c = search (taken, voted, replied, none_takes)

pub returns-in-SlowReply : goal.returns-in-SlowReply
unfolding handle pick
returns-in-SlowReply c = search (taken, voted, replied, none_takes)

pub returns-in-Transaction : goal.returns-in-Transaction
unfolding handle pick
returns-in-Transaction c = search (taken, voted, replied, none_takes)

pub returns-in-Note : goal.returns-in-Note
unfolding handle pick
returns-in-Note c = search (taken, voted, replied, none_takes)

pub returns-in-ReplicaSync : goal.returns-in-ReplicaSync
unfolding handle pick
returns-in-ReplicaSync c = search (taken, voted, replied, none_takes)

pub returns-in-ChangeView : goal.returns-in-ChangeView
unfolding handle pick
returns-in-ChangeView c = search (taken, voted, replied, none_takes)

pub returns-in-Vote : goal.returns-in-Vote
unfolding handle pick
returns-in-Vote c = search (taken, voted, replied, none_takes)

pub returns-in-StartView : goal.returns-in-StartView
unfolding handle pick
returns-in-StartView c = search (taken, voted, replied, none_takes)

pub returns-in-SyncStatus : goal.returns-in-SyncStatus
unfolding handle pick
returns-in-SyncStatus c = search (taken, voted, replied, none_takes)

pub returns-in-Commit : goal.returns-in-Commit
unfolding handle pick
returns-in-Commit c = search (taken, voted, replied, none_takes)

pub returns-in-VerifyRequest : goal.returns-in-VerifyRequest
unfolding handle pick
returns-in-VerifyRequest c = search (taken, voted, replied, none_takes)

pub returns-in-VerifyReply : goal.returns-in-VerifyReply
unfolding handle pick
returns-in-VerifyReply c = search (taken, voted, replied, none_takes)

pub returns-in-Tick : goal.returns-in-Tick
unfolding handle pick
returns-in-Tick c = search (taken, voted, replied, none_takes)
