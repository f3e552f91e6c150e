use native.Mathlib.Omega.{arith}
use Rattle.rebuild.proofs.New.{best_in, prefix_missing, prefix_found}
use Rattle.rebuild.proofs.Tables.{looks_in}
use Rattle.rebuild.proofs.in_prefix.Goals as goal

pub returns-in_default : goal.returns-in_default
returns-in_default c = prefix_missing _ _ _ _ c.requires.counted.given _ c.requires.based c.args.e c.in_default.is

pub log_of-log-requires : goal.log_of-log-requires
log_of-log-requires c = let k = best_in _ _ _ c.requires.based _ c.in-Some.is in (c.requires.counted.given, k.within, k.held)

pub find_row-requires : goal.find_row-requires
find_row-requires c = let k = best_in _ _ _ c.requires.based _ c.in-Some.is in looks_in _ _ _ _ _ _ c.requires.counted.indexed c.requires.counted.given.sent.stands.fits.most _ c.log_of-log.ensures c.requires.counted.given.sent.stands.fits.small (omega (arith, c.requires.counted.given.sent.stands.fits.most, k.within)) _ c.count-number.ensures

pub returns : goal.returns
returns c = prefix_found _ _ _ _ c.requires.counted.given _ c.requires.based _ c.in-Some.is c.args.e _ _ _ c.log_of-log.ensures c.count-number.ensures c.find_row.ensures
