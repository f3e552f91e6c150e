use Rattle.rules.specs.Image.{state_of}
use Rattle.stamps.proofs.Lifts.{kept_lifted}
use Rattle.arrivals.proofs.Lifting.{kept_ready}
use Rattle.arrivals.proofs.keep_and_lift.Goals as goal

pub lift-requires : goal.lift-requires
lift-requires c = kept_ready (state_of c.args.shape c.args.state.now) _ _ _ c.requires.1 c.keep_note.ensures

pub returns : goal.returns
returns c = kept_lifted (state_of c.args.shape c.args.state.now) _ _ c.keep_note.ensures _ _ c.lift.ensures
