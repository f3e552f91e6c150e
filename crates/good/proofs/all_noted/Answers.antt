use mathlib.Core.Path.{sym, ap, ◌∙◌}
use native.Mathlib.Omega.{arith}
use Rattle.logs.proofs.Every.{every_start, every_next, every_stop, every_end}
use Rattle.good.specs.Known.{noted_right}
use Rattle.good.proofs.Tables.{each_is}
use Rattle.good.proofs.all_noted.Goals as goal

pub loop-i-init : goal.loop-i-init
loop-i-init c = (c.count_at-n.ensures, every_start _ _ _ _)

pub returns-then-not-noted_right : goal.returns-then-not-noted_right
returns-then-not-noted_right c = each_is _ _ _ _ c.loop-i.invariant.0 _ _ (every_stop _ _ _ _ c.loop-i.i _ c.loop-i-test.true (sym (c.noted_right.ensures ∙ ap (noted_right _ _ _) c.entry_at-e.ensures) ∙ c.if-not-noted_right.true))

pub loop-i-preserved : goal.loop-i-preserved
loop-i-preserved c = (c.loop-i.invariant.0, every_next _ _ _ _ c.loop-i.i c.loop-i.invariant.1 (sym (c.noted_right.ensures ∙ ap (noted_right _ _ _) c.entry_at-e.ensures) ∙ c.if-not-noted_right.false))

pub returns : goal.returns
returns c = each_is _ _ _ _ c.loop-i.invariant.0 _ _ (every_end _ _ _ _ c.loop-i.i _ c.loop-i.invariant.1 (omega arith) (omega arith))
