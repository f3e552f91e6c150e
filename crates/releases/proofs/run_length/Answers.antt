use Rattle.releases.proofs.Way.{run_open, run_read}
use Rattle.releases.proofs.run_length.Goals as goal

pub run_of-requires : goal.run_of-requires
run_of-requires c = (c.early.ensures.0, run_open _ _ c.args.time _ _ c.early.ensures c.notes-notes.ensures _ c.requires.1, c.notes-notes.ensures.0, c.index_notes.ensures)

pub returns : goal.returns
returns c = run_read _ _ c.args.time _ _ c.early.ensures c.notes-notes.ensures _ c.requires.1 _ c.run_of.ensures
