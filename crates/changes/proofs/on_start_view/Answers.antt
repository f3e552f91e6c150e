use mathlib.Core.Path.{refl}
use Rattle.rules.specs.Choice.{any, pick}
use Rattle.rules.specs.Wire.{case_at}
use Rattle.rules.specs.Step.{on_start_view}
use Rattle.handler.proofs.Closes.{handled_other}
use Rattle.handler.proofs.OtherKind.{other_case}
use Rattle.changes.proofs.StartWays.{start_views, start_counted, start_stands, start_past, start_done}
use Rattle.changes.proofs.on_start_view.Goals as goal

pub returns-in_default : goal.returns-in_default
unfolding any pick case_at
returns-in_default c = handled_other 9 on_start_view _ _ _ _ _ (other_case 9 c.args.m refl (c.in_default.not-StartView _))

pub get32-number-requires : goal.get32-number-requires
get32-number-requires c = start_counted _ _ _ c.args.out.now _ _ c.requires c.in-StartView.is _ c.entries_at-at.ensures.0

pub returns-then-shape-number : goal.returns-then-shape-number
returns-then-shape-number c = start_past _ _ _ _ _ _ c.requires c.in-StartView.is _ c.entries_at-at.ensures.0 _ c.get32-number.ensures c.if-shape-number.true

pub begin-requires : goal.begin-requires
begin-requires c = (c.requires.stands, start_views _ _ _ c.args.out.now _ _ c.requires c.in-StartView.is, c.if-shape-number.false, start_stands _ _ _ c.args.out.now _ _ c.requires c.in-StartView.is _ c.entries_at-at.ensures.0 _ c.get32-number.ensures)

pub returns : goal.returns
returns c = start_done _ _ _ _ _ _ c.requires c.in-StartView.is _ c.entries_at-at.ensures.0 _ c.get32-number.ensures _ c.if-shape-number.false c.begin.ensures
