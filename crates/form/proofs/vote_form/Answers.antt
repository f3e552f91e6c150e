use mathlib.Core.Path.{◌∙◌}
use native.Mathlib.Omega.{arith}
use Rattle.octets.proofs.Laws.{bytes_known}
use Rattle.form.proofs.Same.{flag_zero, flag_wrong, flag_one}
use Rattle.form.proofs.Parts.{vote_place, vote_body_lem}
use Rattle.form.proofs.vote_form.Goals as goal

pub returns-in-0 : goal.returns-in-0
returns-in-0 c = flag_zero (vote_place _) _ _ _ c.requires.0 c.get8.ensures c.in-0.is _ c.all_zero.ensures

pub returns-in-1 : goal.returns-in-1
returns-in-1 c = flag_one (vote_place _) _ _ _ c.requires.0 c.get8.ensures (bytes_known c.args.b.now (λ i. (c.type_inv.b i).fits)) c.in-1.is _ (c.table_form.ensures ∙ vote_body_lem _ _ _ (bytes_known c.args.b.now (λ i. (c.type_inv.b i).fits)) c.requires.0)

pub returns-in_default : goal.returns-in_default
returns-in_default c = flag_wrong (vote_place _) _ _ _ c.requires.0 c.get8.ensures (bytes_known c.args.b.now (λ i. (c.type_inv.b i).fits)) (λ z. omega arith) (λ z. omega arith)
