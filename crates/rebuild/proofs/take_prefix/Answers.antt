use mathlib.Core.Path.{refl, ◌∙◌}
use native.Mathlib.Omega.{arith}
use Rattle.ballots.proofs.Votes.{votes_long}
use Rattle.entries.proofs.Table.{row_read}
use Rattle.rebuild.proofs.Whole.{takes_none, takes_some, based_none, based_some, cut}
use Rattle.rebuild.proofs.take_prefix.Goals as goal

pub returns-in_default : goal.returns-in_default
returns-in_default c = let l = votes_long _ _ c.args.votes.message.now _ c.requires.0.sent in let t = c.requires.2 in let k = c.in_default.ensures c.args.votes.message.now in (refl, based_none _ _ c.args.count l t k _ c.no_entry.ensures, takes_none _ _ c.args.count l t k _ _ c.requires.0.sent.stands.fits.small c.clear.ensures)

pub log_of-log-requires : goal.log_of-log-requires
log_of-log-requires c = let k = c.in-Some.ensures c.args.votes.message.now in (c.requires.0, k.within, k.held)

pub take_over-requires : goal.take_over-requires
take_over-requires c = let w = cut _ _ _ _ c.requires.0 _ _ (c.in-Some.ensures c.args.votes.message.now) _ c.log_of-log.ensures in (c.requires.1, w.room, c.requires.0.sent.stands.fits.small, w.long)

pub overflow_mul-length : goal.overflow_mul-length
overflow_mul-length c = omega (arith, c.requires.0.sent.stands.fits.small, (cut _ _ _ _ c.requires.0 _ _ (c.in-Some.ensures c.args.votes.message.now) _ c.log_of-log.ensures).room)

pub overflow_add-length : goal.overflow_add-length
overflow_add-length c = omega (arith, c.requires.0.sent.stands.fits.small, (cut _ _ _ _ c.requires.0 _ _ (c.in-Some.ensures c.args.votes.message.now) _ c.log_of-log.ensures).room)

pub entry_at-last-requires : goal.entry_at-last-requires
entry_at-last-requires c = let w = cut _ _ _ _ c.requires.0 _ _ (c.in-Some.ensures c.args.votes.message.now) _ c.log_of-log.ensures in omega (arith, w.some, w.long)

pub returns : goal.returns
returns c = let l = votes_long _ _ c.args.votes.message.now _ c.requires.0.sent in let t = c.requires.2 in let k = c.in-Some.ensures c.args.votes.message.now in let w = cut _ _ _ _ c.requires.0 _ _ k _ c.log_of-log.ensures in (refl, based_some _ _ c.args.count l t _ k _ w.within (c.entry_at-last.ensures ∙ row_read _ _ c.log_of-log.ensures.rows _ (omega (arith, w.some, w.within))), takes_some _ _ c.args.count l t _ k _ _ _ c.log_of-log.ensures w.within c.take_over.ensures)
