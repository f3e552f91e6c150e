use mathlib.Core.Path.{◌≡◌, sym, ap, ◌∙◌}
use Rattle.std.specs.Prelude.{Err}
use borrow.Author.Rules.{rules}
use Rattle.rules.specs.Bytes.{left}
use Rattle.rules.specs.Refusals.{Answer}
use Rattle.places.proofs.Sections.{stands}
use Rattle.rooms.proofs.Ways.{refused_by, is_ready, is_handled}
use Rattle.rooms.proofs.answer.Goals as goal

pub admitted-requires : goal.admitted-requires
admitted-requires c = (stands _ _ c.requires.0, c.requires.1)

pub returns-in_err-admitted : goal.returns-in_err-admitted
returns-in_err-admitted c =
    let e : c.from_residual.result ≡ Err c.in_err-admitted.field-0.0 = search rules in
    ap (λ (a : Answer). left a c.args.state.now c.args.out.now) e
    ∙ refused_by _ _ _ _ _ _ c.requires.0 c.requires.1 c.wrong_at.ensures _ (sym c.in_err-admitted.was ∙ c.admitted.ensures)

pub handle-requires : goal.handle-requires
handle-requires c = is_ready _ _ _ c.args.out.now _ _ c.requires.0 c.requires.1 c.wrong_at.ensures _ (sym c.in_ok-admitted.was ∙ c.admitted.ensures)

pub returns : goal.returns
returns c = c.handle.ensures ∙ is_handled _ _ _ _ _ _ c.requires.0 c.requires.1 c.wrong_at.ensures _ (sym c.in_ok-admitted.was ∙ c.admitted.ensures)
