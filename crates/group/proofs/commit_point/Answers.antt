use mathlib.Core.Path.{◌∙◌, sym}
use native.Mathlib.Omega.{arith}
use Rattle.group.proofs.Commit.{begins, rises, falls, ends}
use Rattle.group.proofs.commit_point.Goals as goal

pub loop-low-init : goal.loop-low-init
loop-low-init c = begins _ _ _ _ _

pub loop-low-preserved-then-by_majority : goal.loop-low-preserved-then-by_majority
loop-low-preserved-then-by_majority c = rises _ _ _ _ _ _ _ c.loop-low.invariant _ (omega arith) (omega arith) (sym c.by_majority.ensures ∙ c.if-by_majority.true)

pub loop-low-preserved : goal.loop-low-preserved
loop-low-preserved c = falls _ _ _ _ _ _ _ c.loop-low.invariant _ (omega arith) (omega arith) (sym c.by_majority.ensures ∙ c.if-by_majority.false)

pub returns : goal.returns
returns c = search ends
