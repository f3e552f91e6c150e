use mathlib.Core.Path.{ap, ◌∙◌}
use Rattle.rules.specs.Entry.{before}
use Rattle.rules.specs.declared.Entry.{Entry}
use Rattle.stamps.proofs.may_follow.Goals as goal

pub returns : goal.returns
returns c = c.before-2.ensures ∙ ap (λ (x : Entry). before x c.args.e) c.last_entry.ensures
