use Rattle.entries.proofs.Table.{is_table}
use Rattle.ballots.proofs.Votes.{votes_long}
use Rattle.ballots.proofs.Sound.{lower_good}
use Rattle.rebuild.proofs.Whole.{front_sorted, whole_start, whole_turn, whole_stop, whole_end}
use Rattle.rebuild.proofs.add_all.Goals as goal

pub loop-r-init : goal.loop-r-init
loop-r-init c = whole_start _ _ _ _ _ _ c.requires.1

pub add_from-requires : goal.add_from-requires
add_from-requires c = (c.requires.0, c.loop-r-test.true, is_table _ _ _ c.loop-r.invariant, front_sorted _ _ _ _ _ _ (votes_long _ _ _ _ c.requires.0.counted.given.sent) c.requires.0.based (lower_good _ _ _ _ c.requires.0.counted.given _) _ _ c.loop-r.invariant)

pub returns-then-not-add_from : goal.returns-then-not-add_from
returns-then-not-add_from c = whole_stop _ _ _ _ _ _ (votes_long _ _ _ _ c.requires.0.counted.given.sent) c.requires.0.based (lower_good _ _ _ _ c.requires.0.counted.given _) _ _ _ c.loop-r-test.true c.loop-r.invariant c.add_from.result c.add_from.ensures c.if-not-add_from.true-raw

pub loop-r-preserved : goal.loop-r-preserved
loop-r-preserved c = whole_turn _ _ _ _ _ _ (votes_long _ _ _ _ c.requires.0.counted.given.sent) c.requires.0.based (lower_good _ _ _ _ c.requires.0.counted.given _) _ _ _ c.loop-r-test.true c.loop-r.invariant c.add_from.result c.add_from.ensures c.if-not-add_from.false-raw

pub returns : goal.returns
returns c = whole_end _ _ _ _ _ _ (votes_long _ _ _ _ c.requires.0.counted.given.sent) c.requires.0.based (lower_good _ _ _ _ c.requires.0.counted.given _) _ _ c.loop-r-test.false c.loop-r.invariant
