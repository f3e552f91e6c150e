use Rattle.rules.specs.Choice.{pick}
use Rattle.rules.specs.Wire.{case_at}
use Rattle.rules.proofs.EachKind.{none_of}
use Rattle.rules.proofs.Case.{case_by, no_case}
use Rattle.wire.proofs.decode.case_with.Goals as goal

pub returns-in-1 : goal.returns-in-1
unfolding case_at pick
returns-in-1 c = search case_by

pub returns-in-3 : goal.returns-in-3
unfolding case_at pick
returns-in-3 c = search case_by

pub returns-in-4 : goal.returns-in-4
unfolding case_at pick
returns-in-4 c = search case_by

pub returns-in-5 : goal.returns-in-5
unfolding case_at pick
returns-in-5 c = search case_by

pub returns-in-6 : goal.returns-in-6
unfolding case_at pick
returns-in-6 c = search case_by

pub returns-in-7 : goal.returns-in-7
unfolding case_at pick
returns-in-7 c = search case_by

pub returns-in-8 : goal.returns-in-8
unfolding case_at pick
returns-in-8 c = search case_by

pub returns-in-9 : goal.returns-in-9
unfolding case_at pick
returns-in-9 c = search case_by

pub returns-in-10 : goal.returns-in-10
unfolding case_at pick
returns-in-10 c = search case_by

pub returns-in-11 : goal.returns-in-11
unfolding case_at pick
returns-in-11 c = search case_by

pub returns-in-18 : goal.returns-in-18
unfolding case_at pick
returns-in-18 c = search case_by

pub returns-in-19 : goal.returns-in-19
unfolding case_at pick
returns-in-19 c = search case_by

pub returns-in-23 : goal.returns-in-23
unfolding case_at pick
returns-in-23 c = search case_by

pub returns-in_default : goal.returns-in_default
returns-in_default c = no_case _ _ (none_of _ _ c.in_default.in_default-own.rest)
