use mathlib.Core.Path.{ap₂, ◌∙◌}
use mathlib.Core.Path as path
use Rattle.rules.specs.Wire.{answer_of, offset_in}
use Rattle.replica.specs.Face.{coded}
use Rattle.replica.proofs.jallumere_read.Goals as goal

pub returns : goal.returns
returns c = c.coded.ensures ∙ ap₂ coded (c.answer_of.ensures.0 ∙ path.ap answer_of c.read-m.ensures) (c.offset_of.ensures ∙ path.ap offset_in c.read-m.ensures)
