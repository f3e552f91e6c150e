use mathlib.Core.List.{List}
use Rattle.rules.specs.Entry.{no_entry}
use Rattle.rules.specs.declared.Entry.{Entry}
use Rattle.entries.specs.Table.{Holds}
use Rattle.early.proofs.Sifting.{moved_no, moved_yes}
use Rattle.early.proofs.sift.Goals as goal

pub returns-then-not-chosen : goal.returns-then-not-chosen
returns-then-not-chosen c = moved_no _ no_entry (λ (ws : List Entry). Holds c.args.c ws c.args.t.now) _ _ _ _ _ c.entry_of-e.ensures c.chosen.ensures c.if-not-chosen.true c.requires.0

pub returns : goal.returns
returns c = moved_yes _ no_entry (λ (ws : List Entry). Holds c.args.c ws c.replace_at.new.t) _ _ _ _ _ c.entry_of-e.ensures c.chosen.ensures c.if-not-chosen.false c.replace_at.ensures
