use Prim.Native.Nat.{◌≤◌, ◌+◌, ◌*◌}
use mathlib.Core.Path.{refl}
use native.Mathlib.Omega.{arith}
use lib.ListN.{length}
use Rattle.notes.proofs.Tested.{good_none, good_next, heard_none, heard_next, note_good}
use Rattle.notes.proofs.note_good.Goals as goal

pub loop-j-init : goal.loop-j-init
loop-j-init c = (good_none _ _ _ _ _ _ _, heard_none _ _)

pub loop-j-preserved : goal.loop-j-preserved
loop-j-preserved c = let l : c.args.at + 6 + 9 * (c.loop-j.j + 1) ≤ length c.args.t.now = omega arith in (good_next _ _ _ _ _ _ _ _ _ _ _ l refl c.loop-j.invariant.0 c.point_good-fine.ensures, heard_next _ _ _ _ _ _ refl c.loop-j.invariant.1 c.heard_at-heard.ensures)

pub returns : goal.returns
returns c = note_good _ _ _ _ _ _ _ _ (λ i. (c.type_inv.t i).fits) c.requires.0 (omega arith) (omega arith) c.get32-request.ensures c.get16-coordinator.ensures c.loop-j.invariant.0 c.loop-j.invariant.1
