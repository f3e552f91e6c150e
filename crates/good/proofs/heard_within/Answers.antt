use native.Mathlib.Omega.{arith}
use Rattle.good.proofs.Tables.{row_none}
use Rattle.good.proofs.Heads.{heard_turn, form_none, form_turn, points_end}
use Rattle.good.proofs.heard_within.Goals as goal

pub loop-i-init : goal.loop-i-init
loop-i-init c = (form_none _ _, row_none _ _ _ _)

pub loop-i-preserved : goal.loop-i-preserved
loop-i-preserved c = (form_turn _ _ _ c.loop-i.i _ _ c.places_of-at.ensures.heard (omega arith) c.loop-i.invariant.0 c.point_form-formed.ensures, heard_turn _ _ c.loop-i.i c.args.most _ c.args.asked c.args.leading _ _ c.loop-i.invariant.1 c.heard_point-point.ensures c.heard_flag.ensures)

pub returns : goal.returns
returns c = points_end _ _ c.args.asked c.args.leading c.args.most c.loop-i.i _ _ _ (omega arith) (omega arith) c.loop-i.invariant.0 c.loop-i.invariant.1
