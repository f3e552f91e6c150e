use mathlib.Core.Path.{refl, ◌∙◌}
use native.Mathlib.Omega.{arith}
use Rattle.rules.specs.Choice.{any, pick}
use Rattle.rules.specs.Wire.{case_at}
use Rattle.rules.specs.Kind.{row_of}
use Rattle.rules.specs.Step.{on_transaction}
use Rattle.handler.proofs.Closes.{handled_other}
use Rattle.handler.proofs.OtherKind.{other_case}
use Rattle.places.proofs.Sections.{stands_midway}
use Rattle.arrivals.proofs.TransactionWays.{due_low, known_way, not_early, ours, leader_way, late_way, follower_way}
use Rattle.arrivals.proofs.on_transaction.Goals as goal

pub returns-in_default : goal.returns-in_default
unfolding any pick case_at
returns-in_default c = handled_other 1 on_transaction _ _ _ _ _ (other_case 1 c.args.m refl (c.in_default.not-Transaction _ _ _))

pub first_entry-entry-requires : goal.first_entry-entry-requires
unfolding row_of
first_entry-entry-requires c = (rw c.in-Transaction.is at c.requires, refl, refl)

pub known-requires : goal.known-requires
known-requires c = stands_midway c.requires.stands

pub returns-then-known : goal.returns-then-known
returns-then-known c = known_way _ _ _ _ _ _ _ _ c.requires c.in-Transaction.is _ c.first_entry-entry.ensures _ c.known.ensures c.if-known.true

pub overflow_add-send_time : goal.overflow_add-send_time
overflow_add-send_time c = omega (arith, due_low _ _ _ c.args.out.now _ _ _ _ c.requires c.in-Transaction.is)

pub returns-then-raised-gt-LATEST : goal.returns-then-raised-gt-LATEST
returns-then-raised-gt-LATEST c = late_way _ _ _ _ _ _ _ _ c.requires c.in-Transaction.is _ c.first_entry-entry.ensures _ c.known.ensures c.if-known.false _ c.leads.ensures _ c.stamped-e.ensures c.if-leads.true _ c.raised-raised.ensures c.if-raised-gt-LATEST.true

pub leader_takes-requires : goal.leader_takes-requires
leader_takes-requires c = (c.requires.stands, not_early _ _ _ c.args.out.now _ _ _ _ c.requires c.in-Transaction.is _ c.first_entry-entry.ensures _ c.known.ensures c.if-known.false _ c.leads.ensures _ c.stamped-e.ensures _ c.raised-raised.ensures, ours _ _ _ c.args.out.now _ _ _ _ c.requires c.in-Transaction.is _ c.first_entry-entry.ensures _ c.known.ensures c.if-known.false _ c.leads.ensures _ c.stamped-e.ensures _ c.raised-raised.ensures)

pub returns-then-leads : goal.returns-then-leads
returns-then-leads c = c.leader_takes.ensures ∙ leader_way _ _ _ _ _ _ _ _ c.requires c.in-Transaction.is _ c.first_entry-entry.ensures _ c.known.ensures c.if-known.false _ c.leads.ensures _ c.stamped-e.ensures c.if-leads.true _ c.raised-raised.ensures c.if-raised-gt-LATEST.false

pub returns : goal.returns
returns c = c.follower_takes.ensures ∙ follower_way _ _ _ _ _ _ _ _ c.requires c.in-Transaction.is _ c.first_entry-entry.ensures _ c.known.ensures c.if-known.false _ c.leads.ensures _ c.stamped-e.ensures c.if-leads.false
