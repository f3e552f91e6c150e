use Rattle.ballots.proofs.Votes.{votes_long}
use Rattle.rebuild.proofs.New.{new_late, new_lower, new_few, new_held}
use Rattle.rebuild.proofs.is_new.Goals as goal

pub returns-then-not-before : goal.returns-then-not-before
returns-then-not-before c = new_late _ _ _ c.requires.0.based _ c.args.e _ c.before-2.ensures c.if-not-before.true-raw

pub returns-then-held_below : goal.returns-then-held_below
returns-then-held_below c = new_lower _ _ _ c.requires.0.based _ c.args.e _ c.held_below.ensures c.if-held_below.true

pub returns-then-all-recovery : goal.returns-then-all-recovery
returns-then-all-recovery c = new_few _ _ _ c.requires.0.based _ c.args.e _ _ _ (votes_long _ _ _ _ c.requires.0.counted.given.sent) c.held_below.ensures c.if-held_below.false c.holders_from-all.ensures c.recovery.ensures c.if-all-recovery.true

pub returns : goal.returns
returns c = new_held _ _ _ c.requires.0.based _ c.args.e _ _ _ (votes_long _ _ _ _ c.requires.0.counted.given.sent) c.held_below.ensures c.if-held_below.false c.holders_from-all.ensures c.recovery.ensures _ _ c.before-2.ensures c.if-not-before.false-raw c.if-all-recovery.false c.in_prefix.ensures
