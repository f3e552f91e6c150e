use Rattle.releases.proofs.Next.{all_left}
use Rattle.releases.proofs.leave_released.Goals as goal

pub returns : goal.returns
returns c = all_left c.args.state.now c.args.n c.args.k c.requires.3 c.early_leaves.ensures c.leave_notes.ensures
