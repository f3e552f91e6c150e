use mathlib.Core.Option.{none}
use lib.ListN.{get_or}
use Rattle.rebuild.specs.Tables.{votes_of}
use borrow.Author.Tests.{not-true, not-false}
use Rattle.rebuild.proofs.Holders.{not_held, so_held, counts_some}
use Rattle.rebuild.proofs.holds_at.Goals as goal

pub counted-requires : goal.counted-requires
counted-requires c = (c.requires.0.given, c.requires.1)

pub returns-then-not-counted : goal.returns-then-not-counted
returns-then-not-counted c = not_held _ c.args.e _ _ c.counted.ensures (not-true _ c.if-not-counted.true-raw)

pub log_holds-requires : goal.log_holds-requires
log_holds-requires c = (c.requires.0, c.requires.1, counts_some _ (get_or (votes_of c.args.votes) c.args.r none) _ c.counted.ensures (not-false _ c.if-not-counted.false-raw))

pub returns : goal.returns
returns c = so_held _ c.args.e _ _ _ c.counted.ensures (not-false _ c.if-not-counted.false-raw) c.log_holds.ensures
