use Rattle.wire.proofs.decode.header_at.Goals as goal

pub returns : goal.returns
returns c = simp (c.look32-view.ensures, c.look8-from_replica.ensures, c.look8-from_group.ensures, c.look8-to_mask.ensures, c.look8-to_group.ensures, c.look8-kind.ensures)
