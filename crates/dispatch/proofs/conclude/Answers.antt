use mathlib.Core.Path.{ap, refl}
use Rattle.rules.specs.Choice.{any, pick}
use Rattle.rules.specs.Wire.{tag_of, case_at}
use Rattle.handler.proofs.OtherKind.{other_case}
use Rattle.dispatch.proofs.Handled.{other_vote, own_reply}
use Rattle.dispatch.proofs.conclude.Goals as goal

pub returns-in-VerifyReply : goal.returns-in-VerifyReply
returns-in-VerifyReply c = own_reply _ c.args.m _ c.args.message.now _ _ (ap tag_of c.in-VerifyReply.is) c.on_verify_reply.ensures

pub returns-in_default : goal.returns-in_default
unfolding any pick case_at
returns-in_default c = other_vote _ c.args.m _ c.args.message.now _ _ (other_case 19 c.args.m refl (c.in_default.not-VerifyReply _)) c.on_vote.ensures
