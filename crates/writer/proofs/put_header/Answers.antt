use Rattle.writer.proofs.Writer.{header_put}
use Rattle.writer.proofs.put_header.Goals as goal

pub returns : goal.returns
returns c = header_put _ _ _ _ _ _ _ _ _ _ c.requires c.put8.ensures c.put8-2.ensures c.put8-3.ensures c.put8-4.ensures c.put8-5.ensures c.fill_zero.ensures c.put32.ensures
