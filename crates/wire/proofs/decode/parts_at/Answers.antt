use borrow.Author.Rules.{rules}
use Rattle.wire.proofs.decode.parts_at.Goals as goal

pub returns : goal.returns
returns c = (simp (c.look32-entries.ensures, c.entries_at.ensures.0, c.look32-numbers.ensures, c.numbers_at.ensures.0, c.look32-views.ensures, c.zeros_at-zeros.ensures, c.header_at-header.ensures), search rules)
