use mathlib.Core.Path.{ap}
use mathlib.Core.Bool.{not}
use Rattle.rules.specs.State.{agreed}
use Rattle.rules.specs.Image.{table_at}
use Rattle.repeats.proofs.Laws.{first_start}
use Rattle.notes.specs.Notes.{sized, notes_at}
use Rattle.releases.proofs.Run.{run_stops, run_goes, run_ends}
use Rattle.releases.proofs.run_of.Goals as goal

pub loop-i-init : goal.loop-i-init
loop-i-init c = first_start _

pub returns-then-not-agreed_from : goal.returns-then-not-agreed_from
returns-then-not-agreed_from c = run_stops (agreed (sized c.args.c c.args.s) (notes_at c.args.c c.args.s c.args.notes.now)) c.args.due (table_at c.args.c c.args.early.now 0) c.loop-i.i c.loop-i.invariant c.requires.1 _ _ c.loop-i-test.true c.entry_of-e.ensures c.agreed_from.ensures (ap not c.if-not-agreed_from.true)

pub loop-i-preserved : goal.loop-i-preserved
loop-i-preserved c = run_goes (agreed (sized c.args.c c.args.s) (notes_at c.args.c c.args.s c.args.notes.now)) c.args.due (table_at c.args.c c.args.early.now 0) c.loop-i.i c.loop-i.invariant c.requires.1 _ _ c.loop-i-test.true c.entry_of-e.ensures c.agreed_from.ensures (ap not c.if-not-agreed_from.false)

pub returns : goal.returns
returns c = run_ends (agreed (sized c.args.c c.args.s) (notes_at c.args.c c.args.s c.args.notes.now)) c.args.due (table_at c.args.c c.args.early.now 0) c.loop-i.i c.loop-i.invariant c.requires.1 c.loop-i.auto.i-end c.loop-i-test.false
