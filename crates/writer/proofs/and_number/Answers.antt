use mathlib.Core.Path.{refl}
use Rattle.writer.specs.Said.{said_next}
use Rattle.writer.proofs.and_number.Goals as goal

pub returns : goal.returns
unfolding said_next
returns c = refl
