use Rattle.places.proofs.Sections.{midway_laid}
use Rattle.places.proofs.Head.{put_clock, put_sync}
use Rattle.ticks.proofs.settle.Goals as goal

pub returns : goal.returns
returns c = (put_sync (put_clock (midway_laid c.requires.midway) _ c.put_clock.ensures) _ c.put_sync.ensures).bytes
