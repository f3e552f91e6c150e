use Prim.Native.Nat.{◌^◌, ◌<◌}
use mathlib.Core.Path.{◌≡◌}
use borrow.Author.Rules.{rules}
use Rattle.std.specs.Prelude.{Err}
use Rattle.octets.proofs.Laws.{bytes_known}
use Rattle.votes.proofs.ConcludeWays.{none_gives, conclude_long, conclude_table, conclude_one, conclude_more}
use Rattle.votes.proofs.conclude.Goals as goal

pub returns-in_err-boundary : goal.returns-in_err-boundary
returns-in_err-boundary c =
    let v : c.args.cast.view < 256 ^ 4 = c.requires.0.wide in
    let e : c.from_residual.result ≡ Err c.in_err-boundary.field-0.0 = search rules in
    let p = none_gives c.rebuild-rebuilt.result c.in_err-boundary.field-0.0 c.in_err-boundary.ensures.value in
    rw (e, p.1) (conclude_long _ _ c.args.message.now c.args.cast.view c.args.cast c.requires.0 (bytes_known c.args.message.now (λ i. (c.type_inv.message i).fits)) v _ _ (rw p.0 at c.rebuild-rebuilt.ensures))

pub start_leading-requires : goal.start_leading-requires
start_leading-requires c = let v : c.args.cast.view < 256 ^ 4 = c.requires.0.wide in (c.requires.0.given.sent.stands, c.requires.0.views, conclude_table _ _ c.args.message.now c.args.cast.view c.args.cast c.requires.0 (bytes_known c.args.message.now (λ i. (c.type_inv.message i).fits)) v c.args.out.now _ _ (rw c.in_ok-boundary.ensures.ok_part at c.rebuild-rebuilt.ensures))

pub returns-then-shape-eq1 : goal.returns-then-shape-eq1
returns-then-shape-eq1 c = let v : c.args.cast.view < 256 ^ 4 = c.requires.0.wide in conclude_one _ _ c.args.message.now c.args.cast.view c.args.cast c.requires.0 (bytes_known c.args.message.now (λ i. (c.type_inv.message i).fits)) v _ _ _ (rw c.in_ok-boundary.ensures.ok_part at c.rebuild-rebuilt.ensures) _ c.if-shape-eq1.true c.start_leading.ensures

pub ask_all-requires : goal.ask_all-requires
ask_all-requires c = let v : c.args.cast.view < 256 ^ 4 = c.requires.0.wide in (c.requires.0, conclude_table _ _ c.args.message.now c.args.cast.view c.args.cast c.requires.0 (bytes_known c.args.message.now (λ i. (c.type_inv.message i).fits)) v c.args.out.now _ _ (rw c.in_ok-boundary.ensures.ok_part at c.rebuild-rebuilt.ensures))

pub returns : goal.returns
returns c = let v : c.args.cast.view < 256 ^ 4 = c.requires.0.wide in conclude_more _ _ c.args.message.now c.args.cast.view c.args.cast c.requires.0 (bytes_known c.args.message.now (λ i. (c.type_inv.message i).fits)) v _ _ _ (rw c.in_ok-boundary.ensures.ok_part at c.rebuild-rebuilt.ensures) _ c.if-shape-eq1.false c.ask_all.ensures
