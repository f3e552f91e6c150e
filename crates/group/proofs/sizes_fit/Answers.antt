use Rattle.group.proofs.sizes_fit.Goals as goal

pub returns : goal.returns
returns c = rw c.permitted.ensures
