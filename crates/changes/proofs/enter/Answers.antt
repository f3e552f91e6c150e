use Rattle.places.proofs.Sections.{stands_midway}
use Rattle.octets.proofs.Laws.{bytes_known}
use Rattle.changes.proofs.Entered.{entered_follower, entered_own, entered_place, entered_log, entered_leader}
use borrow.Author.Rules.{rules}
use Rattle.changes.proofs.enter.Goals as goal

pub empty_tables-requires : goal.empty_tables-requires
empty_tables-requires c = stands_midway c.requires.0

pub keep_own_vote-requires : goal.keep_own_vote-requires
keep_own_vote-requires c = let k = bytes_known c.args.message.now (λ i. (c.type_inv.message i).fits) in (search rules, entered_own c.requires.0 _ c.args.message.now k c.requires.1 c.empty_tables.ensures c.take_view.ensures c.put_status.ensures c.put_boundary.ensures, entered_log c.requires.0 _ c.args.message.now k c.requires.1 c.empty_tables.ensures c.take_view.ensures c.put_status.ensures c.put_boundary.ensures, entered_place c.requires.0 _ c.args.message.now k c.requires.1 c.empty_tables.ensures c.take_view.ensures c.put_status.ensures c.put_boundary.ensures)

pub returns-then-leads : goal.returns-then-leads
returns-then-leads c = entered_leader c.requires.0 _ c.args.message.now (bytes_known c.args.message.now (λ i. (c.type_inv.message i).fits)) c.requires.1 c.empty_tables.ensures c.take_view.ensures c.put_status.ensures c.put_boundary.ensures _ c.if-leads.true c.keep_own_vote.ensures

pub returns-else-leads : goal.returns-else-leads
returns-else-leads c = entered_follower c.requires.0 _ c.args.message.now (bytes_known c.args.message.now (λ i. (c.type_inv.message i).fits)) c.requires.1 c.empty_tables.ensures c.take_view.ensures c.put_status.ensures c.put_boundary.ensures _ c.if-leads.false
