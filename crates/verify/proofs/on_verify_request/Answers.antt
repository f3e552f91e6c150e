use mathlib.Core.Path.{refl}
use native.Mathlib.Omega.{arith}
use Rattle.rules.specs.Wire.{case_at}
use Rattle.rules.specs.Kind.{row_of}
use Rattle.rules.specs.Choice.{any, pick}
use Rattle.rules.specs.Step.{on_verify_request}
use Rattle.handler.proofs.Closes.{handled_other}
use Rattle.handler.proofs.OtherKind.{other_case}
use Rattle.verify.proofs.Asked.{asked_small}
use Rattle.verify.proofs.Ways.{from_small, no_room, asked_told}
use borrow.Author.Rules.{rules}
use Rattle.verify.proofs.on_verify_request.Goals as goal

pub returns-in_default : goal.returns-in_default
unfolding any pick case_at
returns-in_default c = handled_other 18 on_verify_request _ _ _ _ _ (other_case 18 c.args.m refl (c.in_default.not-VerifyRequest _ _))

pub length_for-requires : goal.length_for-requires
length_for-requires c = let k = asked_small _ _ _ _ c.count_asked-count.ensures c.source_of-t.ensures.1 in (search rules, omega arith)

pub returns-then-out-length_for : goal.returns-then-out-length_for
returns-then-out-length_for c = no_room _ _ _ _ _ _ _ c.requires c.in-VerifyRequest.is _ _ c.source_of-t.ensures.0 c.count_asked-count.ensures _ c.length_for.ensures c.if-out-length_for.true

pub tell_none-end-requires : goal.tell_none-end-requires
unfolding pick row_of
tell_none-end-requires c = (search rules, from_small _ _ _ c.args.out.now _ _ _ c.requires c.in-VerifyRequest.is, omega (arith, c.length_for.ensures, c.if-out-length_for.false))

pub put_asked-requires : goal.put_asked-requires
unfolding pick row_of
put_asked-requires c = (c.source_of-t.ensures.1, c.count_asked-count.ensures, omega (arith, c.tell_none-end.ensures.0, c.length_for.ensures, c.if-out-length_for.false))

pub returns : goal.returns
returns c = asked_told _ _ _ _ _ _ _ c.requires c.in-VerifyRequest.is _ _ c.source_of-t.ensures.0 c.count_asked-count.ensures _ _ _ _ c.length_for.ensures c.if-out-length_for.false c.tell_none-end.ensures.0 c.tell_none-end.ensures.1 c.put_asked.ensures
