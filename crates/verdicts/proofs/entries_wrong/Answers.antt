use mathlib.Core.Path.{◌≡◌, ◌∙◌, refl}
use Rattle.std.specs.Prelude.{Err}
use borrow.Author.Rules.{rules}
use native.Mathlib.Omega.{arith}
use Rattle.rules.specs.Entry.{last_before}
use Rattle.rules.specs.Read.{entries_wrong}
use Rattle.rules.proofs.Verdicts.{last_next}
use Rattle.verdicts.specs.Rows.{row_in}
use Rattle.verdicts.proofs.Entries.{entry_is, next_fine, next_wrong, repeat_wrong, all_fine}
use Rattle.verdicts.proofs.Fresh.{limit_within}
use Rattle.verdicts.proofs.entries_wrong.Goals as goal

pub loop-i-init : goal.loop-i-init
unfolding last_before entries_wrong
loop-i-init c = (omega arith, limit_within c.with_log-log.result (row_in c.args.b.now c.args.look.at) c.args.look.whole c.args.look.seen c.limit_of-limit.result c.limit_of-limit.ensures, omega (arith, c.entries_at-from.ensures), c.no_entry-last.ensures, refl)

pub returns-in_err-entry_wrong : goal.returns-in_err-entry_wrong
returns-in_err-entry_wrong c =
    let e : c.from_residual.result ≡ Err c.in_err-entry_wrong.field-0.0 = search rules in
    e ∙ next_wrong c.args.s c.args.h (row_in c.args.b.now c.args.look.at) c.args.look.whole c.loop-i.i c.args.look.seen _ _ c.entry_wrong.result c.loop-i.invariant.4 (entry_is c.args.s c.args.h (row_in c.args.b.now c.args.look.at) c.args.look.whole c.with_log-log.result c.entries_at-from.result c.args.look.seen c.limit_of-limit.result c.with_log-log.ensures c.entries_at-from.ensures.0 c.limit_of-limit.ensures c.loop-i.i c.loop-i.last c.look_entry-e.result c.stands_after.result c.loop-i-test.true c.loop-i.invariant.3 c.look_entry-e.ensures c.stands_after.ensures c.entry_wrong.result c.entry_wrong.ensures) c.in_err-entry_wrong.was (omega arith)

pub loop-i-preserved : goal.loop-i-preserved
loop-i-preserved c = (omega arith, c.loop-i.invariant.1, c.loop-i.invariant.2, last_next (row_in c.args.b.now c.args.look.at) c.loop-i.i c.look_entry-e.result c.look_entry-e.ensures, next_fine c.args.s c.args.h (row_in c.args.b.now c.args.look.at) c.args.look.whole c.loop-i.i c.entry_wrong.result c.loop-i.invariant.4 (entry_is c.args.s c.args.h (row_in c.args.b.now c.args.look.at) c.args.look.whole c.with_log-log.result c.entries_at-from.result c.args.look.seen c.limit_of-limit.result c.with_log-log.ensures c.entries_at-from.ensures.0 c.limit_of-limit.ensures c.loop-i.i c.loop-i.last c.look_entry-e.result c.stands_after.result c.loop-i-test.true c.loop-i.invariant.3 c.look_entry-e.ensures c.stands_after.ensures c.entry_wrong.result c.entry_wrong.ensures) c.in_ok-entry_wrong.was)

pub returns-then-limit-look : goal.returns-then-limit-look
returns-then-limit-look c = repeat_wrong c.args.s c.args.h (row_in c.args.b.now c.args.look.at) c.args.look.whole c.with_log-log.result c.entries_at-from.result c.args.look.seen c.limit_of-limit.result c.with_log-log.ensures c.entries_at-from.ensures.0 c.limit_of-limit.ensures c.loop-i.i c.loop-i.invariant.4 (omega arith) (omega arith) (omega arith)

pub returns : goal.returns
returns c = all_fine c.args.s c.args.h (row_in c.args.b.now c.args.look.at) c.args.look.whole c.with_log-log.result c.entries_at-from.result c.args.look.seen c.limit_of-limit.result c.with_log-log.ensures c.entries_at-from.ensures.0 c.limit_of-limit.ensures c.loop-i.i c.loop-i.invariant.4 (omega arith) (omega arith) (omega arith)
