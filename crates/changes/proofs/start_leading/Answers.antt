use Prim.Native.Nat.{◌^◌, ◌<◌}
use native.Mathlib.Omega.{arith}
use Rattle.octets.proofs.Laws.{bytes_known}
use Rattle.changes.proofs.LeadWays.{lead_short, lead_tells, lead_sent}
use borrow.Author.Rules.{rules}
use Rattle.changes.proofs.start_leading.Goals as goal

pub returns-then-out-length_for : goal.returns-then-out-length_for
returns-then-out-length_for c = let v : c.args.view < 256 ^ 4 = omega arith in lead_short c.requires.0 c.args.view v c.args.message.now (bytes_known c.args.message.now (λ i. (c.type_inv.message i).fits)) c.requires.1 c.args.draft.now c.requires.2 _ _ c.count-number.ensures _ c.length_for.ensures c.if-out-length_for.true

pub tell_start-sent-requires : goal.tell_start-sent-requires
tell_start-sent-requires c = let v : c.args.view < 256 ^ 4 = omega arith in let t = lead_tells c.requires.0 c.args.view v c.args.message.now (bytes_known c.args.message.now (λ i. (c.type_inv.message i).fits)) c.requires.1 c.args.draft.now c.requires.2 c.args.out.now _ c.count-number.ensures _ c.length_for.ensures c.if-out-length_for.false _ c.begin.ensures in (search rules, t.0, t.1)

pub returns : goal.returns
returns c = let v : c.args.view < 256 ^ 4 = omega arith in lead_sent c.requires.0 c.args.view v c.args.message.now (bytes_known c.args.message.now (λ i. (c.type_inv.message i).fits)) c.requires.1 c.args.draft.now c.requires.2 _ _ c.count-number.ensures _ c.length_for.ensures c.if-out-length_for.false _ c.begin.ensures _ _ c.tell_start-sent.ensures.0 c.tell_start-sent.ensures.1
