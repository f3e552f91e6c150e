use Rattle.rules.specs.Choice.{any}
use Rattle.rules.specs.Kind.{row_of}
use Rattle.rules.proofs.EachKind.{none_of}
use Rattle.kinds.proofs.Readings.{row_is, no_row_is}
use Rattle.kinds.proofs.row_of.Goals as goal

pub returns-in-1 : goal.returns-in-1
unfolding row_of any
returns-in-1 c = search row_is

pub returns-in-3 : goal.returns-in-3
unfolding row_of any
returns-in-3 c = search row_is

pub returns-in-4 : goal.returns-in-4
unfolding row_of any
returns-in-4 c = search row_is

pub returns-in-5 : goal.returns-in-5
unfolding row_of any
returns-in-5 c = search row_is

pub returns-in-6 : goal.returns-in-6
unfolding row_of any
returns-in-6 c = search row_is

pub returns-in-7 : goal.returns-in-7
unfolding row_of any
returns-in-7 c = search row_is

pub returns-in-8 : goal.returns-in-8
unfolding row_of any
returns-in-8 c = search row_is

pub returns-in-9 : goal.returns-in-9
unfolding row_of any
returns-in-9 c = search row_is

pub returns-in-10 : goal.returns-in-10
unfolding row_of any
returns-in-10 c = search row_is

pub returns-in-11 : goal.returns-in-11
unfolding row_of any
returns-in-11 c = search row_is

pub returns-in-18 : goal.returns-in-18
unfolding row_of any
returns-in-18 c = search row_is

pub returns-in-19 : goal.returns-in-19
unfolding row_of any
returns-in-19 c = search row_is

pub returns-in-23 : goal.returns-in-23
unfolding row_of any
returns-in-23 c = search row_is

pub returns-in_default : goal.returns-in_default
returns-in_default c = no_row_is (none_of _ _ c.in_default.in_default-own.rest)
