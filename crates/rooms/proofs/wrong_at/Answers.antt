use mathlib.Core.Path.{sym, ap, ◌∙◌}
use Rattle.rules.specs.Choice.{pick}
use Rattle.rules.specs.Kind.{to_outside}
use Rattle.rooms.proofs.wrong_at.Goals as goal

pub returns-then-to_outside : goal.returns-then-to_outside
unfolding pick
returns-then-to_outside c = rw (sym (ap to_outside c.look8.ensures) ∙ sym c.to_outside.ensures ∙ c.if-to_outside.true)

pub returns : goal.returns
unfolding pick
returns c = rw (sym (ap to_outside c.look8.ensures) ∙ sym c.to_outside.ensures ∙ c.if-to_outside.false) c.offset_of.ensures
