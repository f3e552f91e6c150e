use mathlib.Core.Path.{◌∙◌}
use native.Mathlib.Omega.{arith}
use Rattle.rules.specs.Entry.{no_entry}
use Rattle.rules.specs.Image.{table_at}
use Rattle.early.proofs.Sifting.{count_none, count_yes, count_no, count_done}
use Rattle.early.proofs.count_chosen.Goals as goal
use Rattle.early.proofs.count_chosen.Goals.{else-chosen, then-chosen}

pub loop-i-init : goal.loop-i-init
loop-i-init c = (c.count-n.ensures ∙ c.requires.0.count, omega arith, count_none _ (table_at c.args.c c.args.t.now 0))

pub loop-i-preserved : goal.loop-i-preserved
loop-i-preserved c = let a = c.args in let es = table_at a.c a.t.now 0 in let l = c.loop-i in let e = c.entry_of-e in elim c.if-chosen.branch [ then-chosen w ↦ (l.invariant.0, omega arith, count_yes _ no_entry es l.i (omega arith) l.found _ e.result _ l.invariant.2 e.ensures c.chosen.ensures w.if-chosen.true w.found-is) | else-chosen w ↦ (l.invariant.0, omega arith, count_no _ no_entry es l.i (omega arith) l.found _ e.result _ l.invariant.2 e.ensures c.chosen.ensures w.if-chosen.false w.found-is) ]

pub returns : goal.returns
returns c = count_done _ (table_at c.args.c c.args.t.now 0) c.loop-i.i _ (omega arith) c.loop-i.invariant.2
