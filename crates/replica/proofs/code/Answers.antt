use mathlib.Core.Path.{ap}
use Rattle.replica.specs.Face.{code_of}
use Rattle.replica.proofs.code.Goals as goal

pub returns-in-Ok : goal.returns-in-Ok
returns-in-Ok c = cc (ap code_of c.in-Ok.is)

pub returns-in-Err : goal.returns-in-Err
returns-in-Err c = cc (ap code_of c.in-Err.is)
