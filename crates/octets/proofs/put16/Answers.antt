use native.Mathlib.Omega.{arith}
use Rattle.octets.proofs.Laws.{put_two}
use Rattle.octets.proofs.put16.Goals as goal

pub returns : goal.returns
returns c = let a = c.args in put_two a.s.now a.at 1 1 a.v _ _ (omega arith) c.put8.ensures c.put8-2.ensures
