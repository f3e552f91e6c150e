use native.Mathlib.Omega.{arith}
use Rattle.ballots.proofs.Sound.{vote_good_lem}
use Rattle.rebuild.proofs.Holders.{key_missing, key_found}
use Rattle.rebuild.proofs.Tables.{looks_in}
use Rattle.rebuild.proofs.log_holds.Goals as goal

pub log_of-log-requires : goal.log_of-log-requires
log_of-log-requires c = (c.requires.0.given, c.requires.1, c.requires.2)

pub find_row-i-requires : goal.find_row-i-requires
find_row-i-requires c = looks_in _ _ _ _ _ _ c.requires.0.indexed c.requires.0.given.sent.stands.fits.most _ c.log_of-log.ensures c.requires.0.given.sent.stands.fits.small (omega (arith, c.requires.0.given.sent.stands.fits.most)) _ c.count-number.ensures

pub returns-then-number-i : goal.returns-then-number-i
returns-then-number-i c = key_missing _ _ _ c.log_of-log.ensures c.args.e _ _ c.count-number.ensures c.find_row-i.ensures c.if-number-i.true

pub returns : goal.returns
returns c = key_found _ _ _ c.log_of-log.ensures _ _ c.args.e _ _ _ (vote_good_lem _ _ _ _ c.requires.0.given _ c.requires.1 c.requires.2) c.count-number.ensures c.find_row-i.ensures c.if-number-i.false c.entry_at-found.ensures
