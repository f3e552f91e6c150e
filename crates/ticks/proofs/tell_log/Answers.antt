use Rattle.places.proofs.Sections.{midway_laid}
use Prim.Native.Nat.{◌+◌, ◌*◌}
use native.Mathlib.Omega.{arith}
use Rattle.handler.proofs.Sends.{sender, own_replica}
use Rattle.ticks.proofs.Telling.{log_room, log_told}
use Rattle.ticks.proofs.tell_log.Goals as goal

pub others-others-requires : goal.others-others-requires
others-others-requires c = (omega (arith, c.get_replica.ensures, own_replica (midway_laid c.requires.0.midway) (sender c.requires.0.midway.holds), c.requires.0.own.replica), c.requires.0.midway.fits.most)

pub tell-requires : goal.tell-requires
tell-requires c = let p = c.places_of-from.result.log in log_room c.requires.0 (p + 4) (p + 4 + 24 * c.log_length.result) (omega (arith, c.places_of-from.ensures.log)) (omega (arith, c.log_length.ensures.0)) _ _ c.requires.1

pub returns : goal.returns
returns c = let p = c.places_of-from.result.log in log_told c.requires.0 (p + 4) (p + 4 + 24 * c.log_length.result) (omega (arith, c.places_of-from.ensures.log)) (omega (arith, c.log_length.ensures.0)) _ _ _ _ _ _ _ _ c.get8.ensures c.get_replica.ensures c.others-others.ensures c.headed.ensures c.tell.ensures
