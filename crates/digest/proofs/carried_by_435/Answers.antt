use Rattle.std.proofs.Common.{arith}
use Rattle.digest.proofs.Laws.{carried}
use Rattle.digest.proofs.carried_by_435.Goals as goal

pub returns : goal.returns
returns c = rw (c.half_times_435.ensures, c.half_times_435-2.ensures) (carried c.args.x (omega arith))
