use native.Mathlib.Omega.{arith}
use Rattle.octets.proofs.Laws.{put_two}
use Rattle.octets.proofs.put64.Goals as goal

pub returns : goal.returns
returns c = let a = c.args in put_two a.s.now a.at 4 4 a.v _ _ (omega arith) c.put32.ensures c.put32-2.ensures
