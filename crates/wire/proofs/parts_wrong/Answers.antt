use mathlib.Core.Path.{◌≡◌, sym, ◌∙◌}
use Rattle.std.specs.Prelude.{Err}
use borrow.Author.Rules.{rules}
use Rattle.fields.proofs.Expected.{headed, then_lem}
use Prim.Native.Nat.{◌<◌}
use native.Mathlib.Omega.{arith}
use Rattle.octets.proofs.Laws.{bytes_known}
use Rattle.rules.proofs.Verdicts.{not_fine}
use Rattle.writer.proofs.Writer.{room_said}
use Rattle.wire.proofs.Formed.{wrong_before, rest_is, few_before, parts_wide, numbers_wide}
use Rattle.wire.proofs.parts_wrong.Goals as goal

pub slice_bounds-body_wide-end : goal.slice_bounds-body_wide-end
slice_bounds-body_wide-end c = room_said c.args.m _ c.said_of-said.ensures.0

pub returns-in_err-and : goal.returns-in_err-and
returns-in_err-and c =
    let e : c.from_residual.result ≡ Err c.in_err-and.field-0.0 = search rules in
    (e ∙ wrong_before c.args.n c.args.s c.args.m c.args.views.now c.args.entries.now c.said_of-said.result c.said_of-said.ensures.0 _ _ _ _ _ _ _ _ c.head_wrong.ensures (c.and-head.ensures ∙ headed _ _ _ _ _ c.expect.ensures) c.body_wide.ensures.0 (c.and-body.ensures ∙ headed _ _ _ _ _ c.expect-2.ensures) c.entries_at-at.ensures.0 c.expect-3.ensures (c.and.ensures ∙ then_lem _ _) (c.and-2.ensures ∙ then_lem _ _) _ _ c.in_err-and.was, λ f. absurd (not_fine _ _ (sym e ∙ f)))

pub entries_wrong-requires : goal.entries_wrong-requires
entries_wrong-requires c = let few = few_before c.args.n c.args.s c.args.m c.args.views.now c.args.entries.now c.said_of-said.result c.said_of-said.ensures.0 _ _ _ _ _ _ _ _ c.head_wrong.ensures (c.and-head.ensures ∙ headed _ _ _ _ _ c.expect.ensures) c.body_wide.ensures.0 (c.and-body.ensures ∙ headed _ _ _ _ _ c.expect-2.ensures) c.entries_at-at.ensures.0 c.expect-3.ensures (c.and.ensures ∙ then_lem _ _) (c.and-2.ensures ∙ then_lem _ _) c.in_ok-and.was in record { groups = c.requires; near = omega arith; few = omega (arith, few); inside = omega arith }

pub returns : goal.returns
returns c = let e = rest_is c.args.n c.args.s c.args.m c.args.views.now c.args.entries.now c.said_of-said.result c.said_of-said.ensures.0 _ _ _ _ _ _ _ _ c.head_wrong.ensures (c.and-head.ensures ∙ headed _ _ _ _ _ c.expect.ensures) c.body_wide.ensures.0 (c.and-body.ensures ∙ headed _ _ _ _ _ c.expect-2.ensures) c.entries_at-at.ensures.0 c.expect-3.ensures (c.and.ensures ∙ then_lem _ _) (c.and-2.ensures ∙ then_lem _ _) _ c.in_ok-and.was c.entries_wrong.ensures in let v : c.said_of-said.result.header.view < 4294967296 = omega (arith, c.struct_known-1.given, c.struct_known-2-1.given) in (e, λ f. parts_wide c.args.n c.args.s c.args.m c.args.views.now c.args.entries.now (bytes_known c.args.views.now (λ i. (c.type_inv.views i).fits)) (bytes_known c.args.entries.now (λ i. (c.type_inv.entries i).fits)) (rw c.said_of-said.ensures.0 at v) (numbers_wide c.args.m _ c.said_of-said.ensures.0 c.body_wide.ensures.1) (sym e ∙ f))
