use Rattle.verdicts.proofs.stands_after.Goals as goal

pub returns : goal.returns
returns c = simp (c.before-2.ensures, c.below.ensures, c.holds.ensures)
