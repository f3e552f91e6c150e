use mathlib.Core.Path.{sym, ◌∙◌}
use native.Mathlib.Omega.{arith}
use Rattle.logs.proofs.Every.{every_start, every_next, every_stop, every_end}
use Rattle.good.proofs.votes_good.Goals as goal

pub loop-r-init : goal.loop-r-init
loop-r-init c = (every_start _ _ _ _)

pub returns-then-not-vote_good : goal.returns-then-not-vote_good
returns-then-not-vote_good c = every_stop _ _ _ _ c.loop-r.r _ (omega arith) (sym c.vote_good.ensures ∙ c.if-not-vote_good.true)

pub loop-r-preserved : goal.loop-r-preserved
loop-r-preserved c = (every_next _ _ _ _ c.loop-r.r c.loop-r.invariant (sym c.vote_good.ensures ∙ c.if-not-vote_good.false))

pub returns : goal.returns
returns c = every_end _ _ _ _ c.loop-r.r _ c.loop-r.invariant (omega arith) (omega arith)
