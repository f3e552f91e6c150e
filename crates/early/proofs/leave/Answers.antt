use mathlib.Core.Path.{refl, subst, ◌∙◌}
use mathlib.Core.List.{List}
use native.Mathlib.Omega.{arith}
use Rattle.rules.specs.declared.Entry.{Entry}
use Rattle.entries.specs.Table.{Holds}
use Rattle.early.proofs.Sifting.{sift_start, sift_end}
use Rattle.early.proofs.Entries.{table_turn}
use borrow.Author.Rules.{rules}
use Rattle.early.proofs.leave.Goals as goal

pub loop-i-init : goal.loop-i-init
loop-i-init c = (c.count-n.ensures ∙ c.requires.0.count, refl, c.requires.0, sift_start _ _)

pub sift-kept-requires : goal.sift-kept-requires
sift-kept-requires c = (c.loop-i.invariant.2, omega (arith, c.loop-i.invariant.3.long), c.loop-i.invariant.3.within, c.requires.1)

pub loop-i-preserved : goal.loop-i-preserved
loop-i-preserved c = let l = c.loop-i in let k = c.sift-kept.ensures in let w = table_turn _ _ l.i l.kept _ _ _ _ l.invariant.3 (omega arith) k.0 k.1 in (l.invariant.0, search rules, w.0, w.1)

pub truncate-requires : goal.truncate-requires
truncate-requires c = (c.loop-i.invariant.2, omega (arith, c.loop-i.invariant.3.long, c.loop-i.invariant.3.within))

pub returns : goal.returns
returns c = let l = c.loop-i in subst (λ (ds : List Entry). Holds c.args.c ds c.truncate.new.t) (sift_end _ _ l.i l.kept _ l.invariant.3 (omega arith)) c.truncate.ensures
