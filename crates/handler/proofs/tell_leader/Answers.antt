use Prim.Native.Nat.{◌%◌, ◌<◌}
use mathlib.Core.Path.{sym, ap, ◌∙◌}
use native.Mathlib.Omega.{arith}
use native.Mathlib.Nat.{mod-lt}
use lib.ListN.{length}
use Rattle.octets.proofs.Laws.{bytes_known}
use Rattle.handler.proofs.Sends.{message_length}
use Rattle.handler.proofs.Leaders.{asked_long, asked_is}
use Rattle.handler.proofs.tell_leader.Goals as goal

pub only-requires : goal.only-requires
only-requires c = let h : 0 < c.args.shape.n = omega arith in let m : c.view_at.result % c.args.shape.n < c.args.shape.n = mod-lt c.view_at.result h in omega arith

pub tell-requires : goal.tell-requires
tell-requires c = let p = c.requires in let a = p.1 in (p.0, a.whole, omega (arith, a.few), omega (arith, a.long c.args.shape.s, asked_long c.message.result c.args.asking.kind c.args.asking.number c.headed-h.result c.message.ensures))

pub returns : goal.returns
returns c = let a = c.args in let p = c.requires in let e = asked_is a.shape a.state.now a.asking.kind a.asking.number a.entries.now a.j _ _ _ _ c.view_at.ensures c.only.ensures c.headed-h.ensures c.message.ensures in let t = rw e at c.tell.ensures in let n = message_length a.shape a.state.now c.message.result a.entries.now (omega arith) (bytes_known a.state.now (λ i. (c.type_inv.state i).fits)) (bytes_known a.entries.now (λ i. (c.type_inv.entries i).fits)) p.1.whole in (t.0, t.1, ap length (sym e) ∙ n ∙ omega (arith, p.1.long a.shape.s, asked_long c.message.result a.asking.kind a.asking.number c.headed-h.result c.message.ensures))
