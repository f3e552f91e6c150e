use Rattle.group.proofs.Masks.{shifted}
use Rattle.group.proofs.only.Goals as goal

pub returns : goal.returns
returns c = shifted 8 c.args.r c.requires
