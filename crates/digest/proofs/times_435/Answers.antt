use Rattle.digest.proofs.Laws.{by_halves}
use Rattle.digest.proofs.times_435.Goals as goal

pub returns : goal.returns
returns c = rw (c.wrapping_add_u32.ensures.value, c.half_times_435.ensures, c.carried_by_435.ensures, c.half_times_435-2.ensures) (by_halves c.args.h.high c.args.h.low)
