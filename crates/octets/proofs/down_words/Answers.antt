use mathlib.Core.Path.{refl}
use native.Mathlib.Omega.{arith}
use Rattle.octets.proofs.Turns.{none_yet, down_next, all_done}
use Rattle.octets.proofs.down_words.Goals as goal

pub loop-i-init : goal.loop-i-init
loop-i-init c = record { whole = omega arith; within = omega arith; moved = none_yet _ _ _ _ }

pub loop-i-preserved : goal.loop-i-preserved
loop-i-preserved c = record { whole = omega arith; within = omega arith; moved = down_next _ _ _ _ 8 _ _ _ c.loop-i.invariant.moved c.move_word.ensures (omega arith) (omega arith) refl }

pub returns : goal.returns
returns c = search all_done

pub returns-2 : goal.returns-2
returns-2 c = down_next _ _ _ _ 8 _ _ _ c.loop-i.invariant.moved c.move_word.ensures (omega arith) (omega arith) (omega arith)
