use mathlib.Core.Path.{◌≡◌, ap, ◌∙◌}
use Rattle.std.specs.Prelude.{Err}
use borrow.Author.Rules.{rules}
use Rattle.rules.specs.Refusals.{Answer}
use Rattle.rules.specs.Read.{all_right}
use Rattle.rules.specs.Write.{written}
use Rattle.rules.specs.declared.refusals.Refusal.TheVariants.{Malformed}
use Rattle.octets.proofs.Laws.{bytes_known}
use Rattle.wire.proofs.Reader.{groups}
use Rattle.wire.proofs.Formed.{sizes_wrong, parts_wrong_lem, told_wrong, told_right, small, room_for, no_room, all_done}
use Rattle.wire.proofs.write.Goals as goal

pub returns-then-not-sizes_fit : goal.returns-then-not-sizes_fit
returns-then-not-sizes_fit c = sizes_wrong c.args.n c.args.s c.args.m c.args.views.now c.args.entries.now c.args.out.now c.sizes_fit.result c.sizes_fit.ensures c.if-not-sizes_fit.true-raw

pub parts_wrong-requires : goal.parts_wrong-requires
parts_wrong-requires c = groups c.args.n c.args.s c.sizes_fit.result c.sizes_fit.ensures c.if-not-sizes_fit.false-raw

pub returns-in_err-parts_wrong : goal.returns-in_err-parts_wrong
returns-in_err-parts_wrong c =
    let e : c.from_residual.result ≡ Err (Malformed c.in_err-parts_wrong.field-0.0.at) = search rules in
    let was : c.parts_wrong.result ≡ Err c.in_err-parts_wrong.field-0.0 = search (rules, told_wrong) in
    ap (λ (a : Answer). written a c.args.out.now) e
    ∙ parts_wrong_lem c.args.n c.args.s c.args.m c.args.views.now c.args.entries.now c.args.out.now c.sizes_fit.result c.sizes_fit.ensures c.if-not-sizes_fit.false-raw c.parts_wrong.result c.parts_wrong.ensures.0 _ _ was

pub size_of-requires : goal.size_of-requires
size_of-requires c = let right : c.parts_wrong.result ≡ all_right = search (rules, told_right) in small c.args.n c.args.s c.args.m c.args.views.now c.args.entries.now c.args.out.now c.sizes_fit.result c.sizes_fit.ensures c.if-not-sizes_fit.false-raw c.parts_wrong.result c.parts_wrong.ensures.0 right c.parts_wrong.ensures.1

pub returns-then-out-size_of : goal.returns-then-out-size_of
returns-then-out-size_of c = let right : c.parts_wrong.result ≡ all_right = search (rules, told_right) in no_room c.args.n c.args.s c.args.m c.args.views.now c.args.entries.now c.args.out.now c.sizes_fit.result c.sizes_fit.ensures c.if-not-sizes_fit.false-raw c.parts_wrong.result c.parts_wrong.ensures.0 right c.parts_wrong.ensures.1 (bytes_known c.args.views.now (λ i. (c.type_inv.views i).fits)) (bytes_known c.args.entries.now (λ i. (c.type_inv.entries i).fits)) c.size_of.result c.size_of.ensures c.if-out-size_of.true

pub put_message-end-requires : goal.put_message-end-requires
put_message-end-requires c = let right : c.parts_wrong.result ≡ all_right = search (rules, told_right) in room_for c.args.n c.args.s c.args.m c.args.views.now c.args.entries.now c.args.out.now c.sizes_fit.result c.sizes_fit.ensures c.if-not-sizes_fit.false-raw c.parts_wrong.result c.parts_wrong.ensures.0 right c.parts_wrong.ensures.1 c.size_of.result c.size_of.ensures c.if-out-size_of.false

pub returns : goal.returns
returns c = let right : c.parts_wrong.result ≡ all_right = search (rules, told_right) in all_done c.args.n c.args.s c.args.m c.args.views.now c.args.entries.now c.args.out.now c.sizes_fit.result c.sizes_fit.ensures c.if-not-sizes_fit.false-raw c.parts_wrong.result c.parts_wrong.ensures.0 right c.parts_wrong.ensures.1 (bytes_known c.args.views.now (λ i. (c.type_inv.views i).fits)) (bytes_known c.args.entries.now (λ i. (c.type_inv.entries i).fits)) c.size_of.result c.put_message-end.result _ c.size_of.ensures c.if-out-size_of.false c.put_message-end.ensures.0 c.put_message-end.ensures.1
