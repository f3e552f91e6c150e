use native.Mathlib.Omega.{arith}
use Rattle.octets.proofs.Laws.{put_two}
use Rattle.octets.proofs.put32.Goals as goal

pub returns : goal.returns
returns c = let a = c.args in put_two a.s.now a.at 2 2 a.v _ _ (omega arith) c.put16.ensures c.put16-2.ensures
