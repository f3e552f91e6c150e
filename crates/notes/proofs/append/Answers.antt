use Prim.Native.Nat.{◌+◌, ◌^◌, ◌≤◌, ◌<◌}
use native.Mathlib.Omega.{arith}
use lib.ListN.{length}
use Rattle.notes.proofs.Notes.{inside}
use Rattle.notes.proofs.Writes.{append_law}
use Rattle.notes.proofs.append.Goals as goal

pub put32-requires : goal.put32-requires
put32-requires c = omega (arith, inside c.args.s c.count-n.result c.args.c (omega arith))

pub put16-requires : goal.put16-requires
put16-requires c = omega (arith, inside c.args.s c.count-n.result c.args.c (omega arith))

pub returns : goal.returns
returns c = let r : c.args.request < 256 ^ 4 = omega arith in let k : c.args.coordinator < 256 ^ 2 = omega arith in let a : c.place-at.result + 6 ≤ length c.args.t.now = omega (arith, inside c.args.s c.count-n.result c.args.c (omega arith)) in append_law _ _ _ _ c.requires.0 _ _ _ _ _ _ _ r k c.requires.1 c.count-n.ensures c.place-at.ensures.0 a c.put32.ensures c.put16.ensures c.put32-2.ensures
