use mathlib.Core.Path.{◌≡◌, ◌∙◌}
use Rattle.std.specs.Prelude.{Err}
use borrow.Author.Rules.{rules}
use Rattle.verdicts.proofs.Entries.{head_wrong, body_wrong, rest_wrong}
use Rattle.verdicts.proofs.message_wrong.Goals as goal

pub returns-in_err-head_wrong : goal.returns-in_err-head_wrong
returns-in_err-head_wrong c =
    let e : c.from_residual.result ≡ Err c.in_err-head_wrong.field-0.0 = search rules in
    e ∙ head_wrong c.args.n c.args.s c.args.p c.args.numbers.now c.args.b.now c.args.look c.head_wrong.result c.head_wrong.ensures _ _ c.in_err-head_wrong.was

pub returns-in_err-body_wrong : goal.returns-in_err-body_wrong
returns-in_err-body_wrong c =
    let e : c.from_residual-in_err-body_wrong.result ≡ Err c.in_err-body_wrong.field-0.0 = search rules in
    e ∙ body_wrong c.args.n c.args.s c.args.p c.args.numbers.now c.args.b.now c.args.look c.head_wrong.result c.head_wrong.ensures c.in_ok-head_wrong.was c.body_wrong.result c.body_wrong.ensures _ _ c.in_err-body_wrong.was

pub returns : goal.returns
returns c = rest_wrong c.args.n c.args.s c.args.p c.args.numbers.now c.args.b.now c.args.look c.head_wrong.result c.head_wrong.ensures c.in_ok-head_wrong.was c.body_wrong.result c.body_wrong.ensures c.entries_wrong.result c.in_ok-body_wrong.was c.entries_wrong.ensures
