use Rattle.places.proofs.Midway.{draft_here, table_is}
use Rattle.places.proofs.draft.Goals as goal

pub returns : goal.returns
returns c = table_is (draft_here c.requires _ _ c.places_of-layout.ensures.draft c.places_of-layout.ensures.replies)
