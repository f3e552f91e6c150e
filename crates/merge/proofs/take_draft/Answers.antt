use mathlib.Core.Path.{subst}
use mathlib.Core.List.{List}
use native.Mathlib.Omega.{arith}
use Rattle.rules.specs.declared.Entry.{Entry}
use Rattle.entries.specs.Rows.{Found}
use Rattle.entries.proofs.Table.{rows_read}
use Rattle.merge.proofs.Turns.{draft_copied}
use Rattle.merge.proofs.take_draft.Goals as goal

pub index_rows-requires : goal.index_rows-requires
index_rows-requires c = let k = draft_copied c.requires.0 _ _ _ _ c.places_of-layout.ensures.draft c.places_of-layout.ensures.table c.requires.1 c.copy_in.ensures in (omega (arith, k.count, k.size, k.room), omega (arith, k.count, k.room, k.small))

pub returns : goal.returns
returns c = let k = draft_copied c.requires.0 _ _ _ _ c.places_of-layout.ensures.draft c.places_of-layout.ensures.table c.requires.1 c.copy_in.ensures in (k, subst (λ (es : List Entry). Found es c.index_rows.new.slots) (rows_read _ _ _ k _ c.count-n.ensures) c.index_rows.ensures)
