use native.Mathlib.Omega.{arith}
use mathlib.Core.Path.{◌∙◌, ap}
use Rattle.octets.proofs.Laws.{bytes_known}
use Rattle.repeats.specs.declared.Spots.{Spots}
use Rattle.repeats.specs.Rows.{count_of, key_of}
use Rattle.repeats.specs.Repeat.{repeat_place}
use Rattle.verdicts.proofs.Keys.{keys_repeat}
use Rattle.verdicts.proofs.repeat_of.Goals as goal

pub index-requires : goal.index-requires
index-requires c = rw c.entry_spots.ensures (record { one = omega arith; two = omega arith; three = omega arith; few = omega arith })

pub returns : goal.returns
returns c = c.index.ensures.0 ∙ ap (λ (sp : Spots). repeat_place (key_of c.args.b.now sp) (count_of sp)) c.entry_spots.ensures ∙ keys_repeat c.args.b.now c.args.at c.args.count (bytes_known c.args.b.now (λ i. (c.type_inv.b i).fits)) (omega arith) _ (omega arith)
