use mathlib.Core.Path.{ap, ◌∙◌}
use mathlib.Core.List.{List}
use lib.ListN.{length}
use Rattle.rules.specs.Early.{due_of}
use Rattle.rules.specs.declared.Entry.{Entry}
use Rattle.releases.proofs.due_count.Goals as goal

pub returns : goal.returns
returns c = c.count_due.ensures ∙ ap (λ (es : List Entry). length (due_of c.args.time es)) c.early.ensures.1
