use Prim.Native.Nat.{◌+◌, ◌-◌, ◌*◌}
use mathlib.Core.Path.{refl}
use native.Mathlib.Omega.{arith}
use Rattle.octets.proofs.Laws.{bytes_known}
use Rattle.verify.specs.Asked.{asked_in}
use Rattle.verify.proofs.Asked.{asked_small, asked_fit, lent, in_order}
use Rattle.verify.proofs.put_asked.Goals as goal

pub overflow_cast-count : goal.overflow_cast-count
overflow_cast-count c = let k = asked_small _ _ _ c.args.count c.requires.1 c.requires.0 in omega arith

pub order-requires : goal.order-requires
order-requires c = let a = c.args in let es = asked_in a.boundary a.asker a.t.now in let k = asked_small _ _ _ a.count c.requires.1 c.requires.0 in let f = asked_fit a.boundary a.asker a.t.now (bytes_known a.t.now (λ i. (c.type_inv.t i).fits)) in lent es a.count c.requires.1 k f a.out.now _ _ a.at (a.at + 4 + 24 * a.count - a.at) c.requires.2 (omega arith) c.put32.ensures c.gather.ensures

pub returns : goal.returns
returns c = let a = c.args in let es = asked_in a.boundary a.asker a.t.now in let k = asked_small _ _ _ a.count c.requires.1 c.requires.0 in let f = asked_fit a.boundary a.asker a.t.now (bytes_known a.t.now (λ i. (c.type_inv.t i).fits)) in in_order es a.count c.requires.1 k f a.out.now _ _ a.at (a.at + 4 + 24 * a.count - a.at) c.requires.2 (omega arith) c.put32.ensures c.gather.ensures _ _ c.order.ensures refl
