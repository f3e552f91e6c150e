use Rattle.early.specs.Listed.{indexed, chosen}
use Rattle.early.specs.declared.Which.TheVariants.{NotAfter}
use Rattle.early.proofs.Buffers.{first_asked, first_is, falls_asked, falls_not, falls}
use Rattle.early.proofs.fall.Goals as goal

pub entry_of-e-requires : goal.entry_of-e-requires
entry_of-e-requires c = (first_asked c.requires.0, rw (first_is c.requires.0) c.requires.1)

pub returns-then-not-chosen : goal.returns-then-not-chosen
returns-then-not-chosen c = falls_not (chosen (indexed c.args.index) (NotAfter c.args.last)) c.requires.0 _ _ _ c.entry_of-e.ensures c.chosen.ensures c.if-not-chosen.true

pub append-requires : goal.append-requires
append-requires c = falls_asked (chosen (indexed c.args.index) (NotAfter c.args.last)) c.requires.0 _ _ _ c.entry_of-e.ensures c.chosen.ensures c.if-not-chosen.false c.requires.2

pub returns : goal.returns
returns c = falls (chosen (indexed c.args.index) (NotAfter c.args.last)) c.requires.0 _ _ _ c.entry_of-e.ensures c.chosen.ensures _ c.if-not-chosen.false c.append.ensures
