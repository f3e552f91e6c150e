use Prim.Native.Nat.{◌+◌, ◌*◌}
use mathlib.Core.Path.{refl}
use native.Mathlib.Omega.{arith}
use Rattle.views.proofs.Cleared.{none_cleared, kept_still, places_turn}
use borrow.Author.Rules.{rules}
use Rattle.views.proofs.clear_places.Goals as goal

pub loop-i-init : goal.loop-i-init
loop-i-init c = (refl, none_cleared c.args.state.now c.args.at c.args.size)

pub clear_place-requires : goal.clear_place-requires
clear_place-requires c = let a = c.args in let l = c.loop-i in (c.requires.1, kept_still _ _ a.state.now _ a.at (a.size * l.i) (a.at + a.size * l.i) l.invariant.1 (omega arith) c.requires.1 (c.requires.3 l.i (omega arith)))

pub loop-i-preserved : goal.loop-i-preserved
loop-i-preserved c = let a = c.args in let l = c.loop-i in (search rules, places_turn a.at a.n l.i a.size _ a.state.now _ _ c.requires.2 (omega arith) c.requires.0 l.invariant.1 c.clear_place.ensures)
