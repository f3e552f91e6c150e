use Prim.Native.Nat.{◌<◌}
use native.Mathlib.Omega.{arith}
use mathlib.Core.Path.{sym, ◌∙◌}
use Rattle.handler.proofs.Leaders.{written_none, written_room, written_next, written_skip, written_all}
use borrow.Author.Rules.{rules}
use Rattle.handler.proofs.tell_leaders.Goals as goal
use Rattle.handler.proofs.tell_leaders.Goals.{else-is_other, then-is_other}

pub loop-j-init : goal.loop-j-init
loop-j-init c = (c.get_group-own.ensures, written_none _ _ _ _ _ _ _)

pub tell_leader-at-requires : goal.tell_leader-at-requires
tell_leader-at-requires c = let p = c.requires in let l = c.loop-j in (p.0, p.1, search rules, written_room _ _ _ _ _ _ _ _ _ _ l.invariant.1 (search rules) p.2 (sym (rw l.invariant.0 at c.is_other.ensures) ∙ c.if-is_other.true))

pub loop-j-preserved : goal.loop-j-preserved
loop-j-preserved c = let l = c.loop-j in let p = c.requires in let o = rw l.invariant.0 at c.is_other.ensures in let j : l.j < c.args.shape.s = omega arith in (l.invariant.0, elim c.if-is_other.branch [ then-is_other w ↦ written_next _ _ _ _ _ _ _ _ _ _ l.invariant.1 j p.2 _ _ (sym o ∙ w.if-is_other.true) (w.at-is ∙ w.tell_leader-at.ensures.0) (w.out-is ∙ w.tell_leader-at.ensures.1) w.tell_leader-at.ensures.2 | else-is_other w ↦ rw (w.out-is, w.at-is) (written_skip _ _ _ _ _ _ _ _ _ _ l.invariant.1 j p.2 (sym o ∙ w.if-is_other.false)) ])

pub returns : goal.returns
returns c = written_all _ _ _ _ _ _ _ _ _ _ c.loop-j.invariant.1 (search rules)
