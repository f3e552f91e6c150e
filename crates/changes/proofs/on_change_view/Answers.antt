use mathlib.Core.Path.{refl}
use Rattle.octets.proofs.Laws.{bytes_known}
use Rattle.rules.specs.Choice.{any, pick}
use Rattle.rules.specs.Wire.{case_at}
use Rattle.rules.specs.Step.{on_change_view}
use Rattle.handler.proofs.Closes.{handled_other}
use Rattle.handler.proofs.OtherKind.{other_case}
use Rattle.changes.proofs.ChangeWays.{change_room, change_leads, change_short, change_tells, change_sent}
use borrow.Author.Rules.{rules}
use Rattle.changes.proofs.on_change_view.Goals as goal

pub returns-in_default : goal.returns-in_default
unfolding any pick case_at
returns-in_default c = handled_other 7 on_change_view _ _ _ _ _ (other_case 7 c.args.m refl (c.in_default.not-ChangeView _))

pub leads_by-requires : goal.leads_by-requires
leads_by-requires c = (c.requires.stands, change_room _ _ _ c.args.out.now _ _ c.requires c.in-ChangeView.is)

pub enter-requires : goal.enter-requires
enter-requires c = (c.requires.stands, change_room _ _ _ c.args.out.now _ _ c.requires c.in-ChangeView.is)

pub returns-then-leads_by : goal.returns-then-leads_by
returns-then-leads_by c = change_leads _ _ _ _ _ _ c.requires c.in-ChangeView.is _ c.leads_by.ensures _ c.if-leads_by.true c.enter.ensures

pub returns-then-out-length_for : goal.returns-then-out-length_for
returns-then-out-length_for c = change_short _ _ _ _ _ _ c.requires c.in-ChangeView.is _ c.leads_by.ensures c.if-leads_by.false _ c.log_length-count.ensures.0 (bytes_known c.args.message.now (λ i. (c.type_inv.message i).fits)) _ c.length_for.ensures c.if-out-length_for.true

pub enter-requires-2 : goal.enter-requires-2
enter-requires-2 c = (c.requires.stands, change_room _ _ _ c.args.out.now _ _ c.requires c.in-ChangeView.is)

pub tell_vote-sent-requires : goal.tell_vote-sent-requires
tell_vote-sent-requires c = let t = change_tells _ _ _ c.args.out.now _ _ c.requires c.in-ChangeView.is _ c.leads_by.ensures c.if-leads_by.false _ c.log_length-count.ensures.0 (bytes_known c.args.message.now (λ i. (c.type_inv.message i).fits)) _ c.length_for.ensures c.if-out-length_for.false _ c.enter-2.ensures in (search rules, t.0, t.1)

pub returns : goal.returns
returns c = change_sent _ _ _ _ _ _ c.requires c.in-ChangeView.is _ c.leads_by.ensures c.if-leads_by.false _ c.log_length-count.ensures.0 (bytes_known c.args.message.now (λ i. (c.type_inv.message i).fits)) _ c.length_for.ensures c.if-out-length_for.false _ c.enter-2.ensures _ _ c.tell_vote-sent.ensures.0 c.tell_vote-sent.ensures.1
