use Rattle.early.proofs.list.Goals as goal

pub returns : goal.returns
returns c = record { inside = c.requires.0; few = c.requires.1; found = c.index_rows.ensures }
