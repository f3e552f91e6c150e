use mathlib.Core.Path.{sym, ap, ◌∙◌}
use borrow.Author.Tests.{eq-eqb, ne_eqb}
use Rattle.rules.proofs.Choice.{pick_true, pick_false}
use Rattle.verify.specs.Asked.{used_in}
use Rattle.verify.proofs.Asked.{used_lent}
use Rattle.verify.proofs.source.Goals as goal

pub returns-then-status-eq-CROSS_SHARD : goal.returns-then-status-eq-CROSS_SHARD
returns-then-status-eq-CROSS_SHARD c = used_lent _ _ c.count.ensures ∙ ap used_in (sym (pick_true _ _ _ (eq-eqb _ _ c.if-status-eq-CROSS_SHARD.true)))

pub returns-else-status-eq-CROSS_SHARD : goal.returns-else-status-eq-CROSS_SHARD
returns-else-status-eq-CROSS_SHARD c = used_lent _ _ c.count-else-status-eq-CROSS_SHARD.ensures ∙ ap used_in (sym (pick_false _ _ _ (ne_eqb _ _ c.if-status-eq-CROSS_SHARD.false)))
