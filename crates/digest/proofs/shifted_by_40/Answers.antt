use Rattle.digest.proofs.Laws.{upper_shifted}
use Rattle.digest.proofs.shifted_by_40.Goals as goal

pub returns : goal.returns
returns c = upper_shifted c.args.h.high c.args.h.low
