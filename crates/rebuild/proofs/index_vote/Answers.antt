use native.Mathlib.Omega.{arith}
use borrow.Author.Tests.{not-false}
use mathlib.Core.Path.{refl}
use mathlib.Core.Option.{none}
use lib.ListN.{get_or}
use Rattle.rebuild.specs.Tables.{votes_of}
use Prim.Native.Nat.{ℕ, ◌<◌, ◌≤◌}
use Rattle.rebuild.proofs.Holders.{counts_some}
use Rattle.rebuild.proofs.Tables.{index_same, index_found}
use Rattle.rebuild.proofs.index_vote.Goals as goal

replica_low : (r n : ℕ) → r < n → n ≤ 7 → r < 7
replica_low r n h k = omega arith

pub returns-then-not-counted : goal.returns-then-not-counted
returns-then-not-counted c = index_same _ _ _ _ c.requires.2

pub returns-then-slots-end : goal.returns-then-slots-end
returns-then-slots-end c = index_same _ _ _ _ c.requires.2

pub log_of-log-requires : goal.log_of-log-requires
log_of-log-requires c = (c.requires.0, c.requires.1, counts_some _ (get_or (votes_of c.args.votes) c.args.r none) _ c.counted.ensures (not-false _ c.if-not-counted.false-raw))

pub index_rows-requires : goal.index_rows-requires
index_rows-requires c = (omega (arith, c.count-n.ensures, c.log_of-log.ensures.count, c.log_of-log.ensures.size), omega (arith, c.count-n.ensures, c.log_of-log.ensures.count, c.log_of-log.ensures.room, c.requires.0.sent.stands.fits.small))

pub bounds-next-i : goal.bounds-next-i
bounds-next-i c = replica_low _ _ c.requires.1 c.requires.0.sent.stands.fits.most

pub returns : goal.returns
returns c = index_found _ _ _ _ _ c.requires.2 (replica_low _ _ c.requires.1 c.requires.0.sent.stands.fits.most) _ c.log_of-log.ensures _ c.count-n.ensures _ c.index_rows.ensures _ _ refl refl c.if-slots-end.false c.slots-1.given.0
