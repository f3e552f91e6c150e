use native.Mathlib.Omega.{arith}
use Rattle.places.specs.Layout.{Sized}
use Rattle.readers.proofs.Fields.{no_entry, sized, before_first, past_last, the_entry}
use Rattle.readers.proofs.entry.Goals as goal
use Rattle.readers.proofs.entry.Goals.{Else-not-is_sized}

known : (c : Else-not-is_sized) → Sized c.args.shape c.args.state.now
known c = sized _ _ _ c.is_sized.ensures c.if-not-is_sized.false-raw

pub returns-then-not-is_sized : goal.returns-then-not-is_sized
returns-then-not-is_sized c = no_entry _ _ _ c.is_sized.ensures c.if-not-is_sized.true-raw _ _

pub returns-then-position-lt1 : goal.returns-then-position-lt1
returns-then-position-lt1 c = before_first _ _ _ c.is_sized.ensures c.if-not-is_sized.false-raw _ _ c.if-position-lt1.true

pub log_length-requires : goal.log_length-requires
log_length-requires c = known (goal.at.log_length-requires c).Else-not-is_sized

pub returns-then-log_length-position : goal.returns-then-log_length-position
returns-then-log_length-position c = past_last _ _ _ c.is_sized.ensures c.if-not-is_sized.false-raw _ _ _ c.log_length.ensures.0 c.if-position-lt1.false c.if-log_length-position.true

pub log_entry-requires : goal.log_entry-requires
log_entry-requires c = (known (goal.at.log_entry-requires c).Else-not-is_sized, omega (arith, c.log_length.ensures.0, c.if-position-lt1.false, c.if-log_length-position.false))

pub returns : goal.returns
returns c = the_entry _ _ _ c.is_sized.ensures c.if-not-is_sized.false-raw _ _ _ c.log_length.ensures.0 c.if-position-lt1.false _ _ c.if-log_length-position.false c.log_entry.ensures c.entry_field.ensures
