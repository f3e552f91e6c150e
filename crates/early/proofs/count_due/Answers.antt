use mathlib.Core.Path.{◌∙◌}
use native.Mathlib.Omega.{arith}
use Rattle.rules.specs.Image.{table_at}
use Rattle.repeats.proofs.Laws.{first_start}
use Rattle.early.proofs.Leading.{due_stops, due_goes, due_ends}
use Rattle.early.proofs.count_due.Goals as goal

pub loop-k-init : goal.loop-k-init
loop-k-init c = (c.count-n.ensures ∙ c.requires.count, first_start _)

pub returns-then-time-e : goal.returns-then-time-e
returns-then-time-e c = due_stops c.args.time (table_at c.args.c c.args.t.now 0) _ _ c.loop-k.invariant.1 c.loop-k.invariant.0 _ c.entry_of-e.ensures c.loop-k-test.true c.if-time-e.true

pub loop-k-preserved : goal.loop-k-preserved
loop-k-preserved c = (c.loop-k.invariant.0, due_goes c.args.time (table_at c.args.c c.args.t.now 0) _ _ c.loop-k.invariant.1 c.loop-k.invariant.0 _ c.entry_of-e.ensures c.if-time-e.false)

pub returns : goal.returns
returns c = due_ends c.args.time (table_at c.args.c c.args.t.now 0) _ _ c.loop-k.invariant.1 c.loop-k.invariant.0 (omega arith) (omega arith)
