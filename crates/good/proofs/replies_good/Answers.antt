use mathlib.Core.Path.{sym, ◌∙◌}
use mathlib.Core.Bool.{true}
use native.Mathlib.Omega.{arith}
use Rattle.good.proofs.Tables.{below_start, below_next, below_stop, below_end}
use Rattle.good.proofs.replies_good.Goals as goal

pub loop-j-init : goal.loop-j-init
loop-j-init c = (below_start _)

pub returns-then-not-reply_good : goal.returns-then-not-reply_good
returns-then-not-reply_good c = below_stop _ c.loop-j.j _ (omega arith) (sym c.reply_good.ensures ∙ c.if-not-reply_good.true)

pub loop-j-preserved : goal.loop-j-preserved
loop-j-preserved c = sym (below_next _ c.loop-j.j true true (sym c.loop-j.invariant) (sym (sym c.reply_good.ensures ∙ c.if-not-reply_good.false)))

pub returns : goal.returns
returns c = below_end _ c.loop-j.j _ true (sym c.loop-j.invariant) (omega arith) (omega arith)
