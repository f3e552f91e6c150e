use native.Mathlib.Omega.{arith}
use Rattle.group.proofs.Masks.{none_past}
use Rattle.group.proofs.holds.Goals as goal

pub returns-then-j-ge16 : goal.returns-then-j-ge16
returns-then-j-ge16 c = none_past 16 c.args.mask c.args.j (omega arith) c.if-j-ge16.true
