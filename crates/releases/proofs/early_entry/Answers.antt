use mathlib.Core.Path.{ap, ◌∙◌}
use mathlib.Core.List.{List}
use Rattle.rules.specs.Entry.{entry_of}
use Rattle.rules.specs.declared.Entry.{Entry}
use Rattle.releases.proofs.early_entry.Goals as goal

pub returns : goal.returns
returns c = c.entry_of.ensures ∙ ap (λ (es : List Entry). entry_of es c.args.i) c.early.ensures.1
