use Rattle.votes.proofs.Came.{draft_taken}
use Rattle.votes.proofs.take_draft.Goals as goal

pub returns : goal.returns
returns c = draft_taken _ _ _ _ _ _ _ _ _ c.requires.2 c.places_of-draft.ensures.draft c.count-number.ensures c.renew_table.ensures c.put_boundary.ensures c.put_status.ensures
