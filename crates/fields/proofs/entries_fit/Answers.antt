use Rattle.fields.proofs.entries_fit.Goals as goal

pub returns : goal.returns
returns c = simp (c.either-2.ensures, c.either.ensures, c.with_log.ensures, c.with_one.ensures, c.number_of-sync.ensures)
