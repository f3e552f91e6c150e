use Rattle.places.proofs.Sections.{stands_midway}
use Rattle.verify.proofs.Asked.{source_lent}
use Rattle.verify.proofs.source_of.Goals as goal

pub draft-draft-requires : goal.draft-draft-requires
draft-draft-requires c = stands_midway c.requires

pub log-log-requires : goal.log-log-requires
log-log-requires c = stands_midway c.requires

pub returns : goal.returns
returns c = source_lent c.requires _ _ c.draft-draft.ensures.0 c.draft-draft.ensures.1 c.log-log.ensures.0 c.log-log.ensures.1 _ _ c.get_status.ensures c.source.ensures
