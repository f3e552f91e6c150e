use Rattle.good.proofs.Whole.{lent_notes, rest_is}
use Rattle.good.proofs.rest_good.Goals as goal

pub notes_right-noting-requires : goal.notes_right-noting-requires
notes_right-noting-requires c = (c.requires.known, lent_notes _ _ _ _ c.requires.notes c.places_of-layout.ensures.notes c.places_of-layout.ensures.votes)

pub returns : goal.returns
returns c = rest_is _ _ _ c.requires.known.sized.size _ _ _ _ _ _ _ _ _ c.get_group-group.ensures c.places_of-layout.ensures.draft c.heard_good-heard.ensures c.log_good-draft.ensures c.points_good-points.ensures c.view_good-view.ensures c.kept_good-kept.ensures c.entries_good-entries.ensures c.notes_right-noting.ensures
