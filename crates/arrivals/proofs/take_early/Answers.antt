use mathlib.Core.Path.{◌∙◌}
use Rattle.rules.specs.Image.{state_of}
use Rattle.places.proofs.Head.{group_of}
use Rattle.places.proofs.Sections.{stands_midway, midway_here}
use Rattle.stamps.proofs.Lifts.{standing}
use Rattle.arrivals.specs.Taken.{Lifting}
use Rattle.arrivals.proofs.Lifting.{early_sorted, own_lifting}
use Rattle.arrivals.proofs.TakeWays.{taken_is}
use Rattle.arrivals.proofs.take_early.Goals as goal

pub add_early-requires : goal.add_early-requires
add_early-requires c = (stands_midway c.requires.0, c.requires.2, early_sorted c.requires.0)

pub keep_and_lift-requires : goal.keep_and_lift-requires
keep_and_lift-requires c = (midway_here c.add_early.ensures, standing (state_of c.args.shape c.args.state.now) _ _ c.add_early.ensures (Lifting c.args.shape c.args.e c.get_group-own.result c.args.e.stamp) (own_lifting c.requires.0 c.args.e c.requires.1 c.requires.4 c.requires.3 _ (c.get_group-own.ensures ∙ group_of (stands_midway c.requires.0))))

pub returns : goal.returns
returns c = taken_is (state_of c.args.shape c.args.state.now) c.args.e _ _ c.add_early.ensures (c.get_group-own.ensures ∙ group_of (stands_midway c.requires.0)) c.keep_and_lift.ensures
