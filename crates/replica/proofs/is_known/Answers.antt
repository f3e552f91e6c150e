use Rattle.replica.proofs.Face.{none_known}
use Rattle.replica.proofs.is_known.Goals as goal

pub returns-then-kind-gt255 : goal.returns-then-kind-gt255
returns-then-kind-gt255 c = none_known _ c.if-kind-gt255.true
