use mathlib.Core.Path.{refl}
use borrow.Author.Tests.{ne_eqb}
use Rattle.rules.specs.Choice.{pick}
use Rattle.readers.specs.Said.{entry_field_of}
use Rattle.readers.proofs.Fields.{asked}
use Rattle.readers.proofs.entry_field.Goals as goal

pub returns-in-1 : goal.returns-in-1
unfolding entry_field_of pick
returns-in-1 c = asked (entry_field_of _) _ 1 _ c.in-1.is refl

pub returns-in-2 : goal.returns-in-2
unfolding entry_field_of pick
returns-in-2 c = asked (entry_field_of _) _ 2 _ c.in-2.is refl

pub returns-in-3 : goal.returns-in-3
unfolding entry_field_of pick
returns-in-3 c = asked (entry_field_of _) _ 3 _ c.in-3.is refl

pub returns-in-4 : goal.returns-in-4
unfolding entry_field_of pick
returns-in-4 c = asked (entry_field_of _) _ 4 _ c.in-4.is refl

pub returns-in-5 : goal.returns-in-5
unfolding entry_field_of pick
returns-in-5 c = asked (entry_field_of _) _ 5 _ c.in-5.is refl

pub returns-in_default : goal.returns-in_default
unfolding entry_field_of pick
returns-in_default c = simp (ne_eqb _ _ c.in_default.in_default-own.rest.0.0.0.0.1, ne_eqb _ _ c.in_default.in_default-own.rest.0.0.0.1, ne_eqb _ _ c.in_default.in_default-own.rest.0.0.1, ne_eqb _ _ c.in_default.in_default-own.rest.0.1, ne_eqb _ _ c.in_default.in_default-own.rest.1)
