use mathlib.Core.Path.{◌≡◌, sym, ◌∙◌}
use borrow.Author.Tests.{ne_eqb}
use Rattle.rules.specs.Choice.{pick}
use Prim.Native.Nat.{ℕ}
use Rattle.rules.specs.Image.{state_of}
use Rattle.places.proofs.Fields.{Fields, fields}
use Rattle.readers.specs.Said.{field_of}
use Rattle.readers.proofs.Fields.{asked}
use Rattle.readers.proofs.field_of.Goals as goal
use Rattle.readers.proofs.field_of.Goals.{Start}

said : (c : Start) (k r : ℕ) → c.args.field ≡ k → r ≡ field_of c.args.shape (state_of c.args.shape c.args.state.now) k → r ≡ field_of c.args.shape (state_of c.args.shape c.args.state.now) c.args.field
said c = asked (field_of c.args.shape (state_of c.args.shape c.args.state.now)) c.args.field

head : (c : Start) → Fields c.args.shape c.args.state.now (state_of c.args.shape c.args.state.now)
head c = fields c.args.shape c.args.state.now c.requires.size

pub returns-in-1 : goal.returns-in-1
unfolding field_of pick
returns-in-1 c = said (goal.at.returns-in-1 c).Start 1 _ c.in-1.is (c.get_group.ensures ∙ sym (head (goal.at.returns-in-1 c).Start).group)

pub returns-in-2 : goal.returns-in-2
unfolding field_of pick
returns-in-2 c = said (goal.at.returns-in-2 c).Start 2 _ c.in-2.is (c.get_replica.ensures ∙ sym (head (goal.at.returns-in-2 c).Start).replica)

pub returns-in-3 : goal.returns-in-3
unfolding field_of pick
returns-in-3 c = said (goal.at.returns-in-3 c).Start 3 _ c.in-3.is (c.get_status.ensures ∙ sym (head (goal.at.returns-in-3 c).Start).status)

pub returns-in-4 : goal.returns-in-4
unfolding field_of pick
returns-in-4 c = said (goal.at.returns-in-4 c).Start 4 _ c.in-4.is (c.get_view.ensures ∙ sym (head (goal.at.returns-in-4 c).Start).view)

pub returns-in-5 : goal.returns-in-5
unfolding field_of pick
returns-in-5 c = said (goal.at.returns-in-5 c).Start 5 _ c.in-5.is (c.get_normal.ensures ∙ sym (head (goal.at.returns-in-5 c).Start).normal)

pub returns-in-6 : goal.returns-in-6
unfolding field_of pick
returns-in-6 c = said (goal.at.returns-in-6 c).Start 6 _ c.in-6.is (c.get_clock.ensures ∙ sym (head (goal.at.returns-in-6 c).Start).clock)

pub returns-in-7 : goal.returns-in-7
unfolding field_of pick
returns-in-7 c = said (goal.at.returns-in-7 c).Start 7 _ c.in-7.is (c.get_sync.ensures ∙ sym (head (goal.at.returns-in-7 c).Start).sync)

pub returns-in-8 : goal.returns-in-8
unfolding field_of pick
returns-in-8 c = said (goal.at.returns-in-8 c).Start 8 _ c.in-8.is (c.get_commit.ensures ∙ sym (head (goal.at.returns-in-8 c).Start).commit)

pub returns-in-9 : goal.returns-in-9
unfolding field_of pick
returns-in-9 c = said (goal.at.returns-in-9 c).Start 9 _ c.in-9.is c.log_length.ensures.0

pub returns-in-10 : goal.returns-in-10
unfolding field_of pick
returns-in-10 c = said (goal.at.returns-in-10 c).Start 10 _ c.in-10.is c.own_leader.ensures

pub returns-in_default : goal.returns-in_default
unfolding field_of pick
returns-in_default c = simp (ne_eqb _ _ c.in_default.in_default-own.rest.0.0.0.0.0.0.0.0.0.1, ne_eqb _ _ c.in_default.in_default-own.rest.0.0.0.0.0.0.0.0.1, ne_eqb _ _ c.in_default.in_default-own.rest.0.0.0.0.0.0.0.1, ne_eqb _ _ c.in_default.in_default-own.rest.0.0.0.0.0.0.1, ne_eqb _ _ c.in_default.in_default-own.rest.0.0.0.0.0.1, ne_eqb _ _ c.in_default.in_default-own.rest.0.0.0.0.1, ne_eqb _ _ c.in_default.in_default-own.rest.0.0.0.1, ne_eqb _ _ c.in_default.in_default-own.rest.0.0.1, ne_eqb _ _ c.in_default.in_default-own.rest.0.1, ne_eqb _ _ c.in_default.in_default-own.rest.1)
