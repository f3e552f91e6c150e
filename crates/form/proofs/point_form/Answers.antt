use native.Mathlib.Omega.{arith}
use Rattle.octets.proofs.Laws.{bytes_known}
use Rattle.form.proofs.Same.{flag_zero, flag_only}
use Rattle.form.proofs.Parts.{point_place, point_body}
use Rattle.form.proofs.point_form.Goals as goal

pub returns-in-0 : goal.returns-in-0
returns-in-0 c = flag_zero point_place _ _ _ c.requires c.get8.ensures c.in-0.is _ c.all_zero.ensures

pub returns-in_default : goal.returns-in_default
returns-in_default c = flag_only point_place _ _ _ c.requires c.get8.ensures (bytes_known c.args.b.now (λ i. (c.type_inv.b i).fits)) (λ z. omega arith) (point_body _ _ (bytes_known c.args.b.now (λ i. (c.type_inv.b i).fits)) c.requires)
