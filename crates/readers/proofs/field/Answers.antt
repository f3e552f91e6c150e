use Rattle.readers.proofs.Fields.{no_field, sized, the_field}
use Rattle.readers.proofs.field.Goals as goal

pub returns-then-not-is_sized : goal.returns-then-not-is_sized
returns-then-not-is_sized c = no_field _ _ _ c.is_sized.ensures c.if-not-is_sized.true-raw _

pub field_of-requires : goal.field_of-requires
field_of-requires c = sized _ _ _ c.is_sized.ensures c.if-not-is_sized.false-raw

pub returns : goal.returns
returns c = the_field _ _ _ c.is_sized.ensures c.if-not-is_sized.false-raw _ _ c.field_of.ensures
