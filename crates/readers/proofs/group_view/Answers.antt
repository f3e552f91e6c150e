use Rattle.readers.proofs.Fields.{no_view, sized, past_groups, the_view}
use Rattle.readers.proofs.group_view.Goals as goal

pub returns-then-not-is_sized : goal.returns-then-not-is_sized
returns-then-not-is_sized c = no_view _ _ _ c.is_sized.ensures c.if-not-is_sized.true-raw _

pub returns-then-shape-group : goal.returns-then-shape-group
returns-then-shape-group c = past_groups _ _ _ c.is_sized.ensures c.if-not-is_sized.false-raw _ c.if-shape-group.true

pub view_at-requires : goal.view_at-requires
view_at-requires c = (sized _ _ _ c.is_sized.ensures c.if-not-is_sized.false-raw, c.if-shape-group.false)

pub returns : goal.returns
returns c = the_view _ _ _ c.is_sized.ensures c.if-not-is_sized.false-raw _ _ c.if-shape-group.false c.view_at.ensures
