use Rattle.rules.specs.Entry.{place_all}
use Rattle.rules.specs.Rebuild.{with_normal, prefix}
use Rattle.entries.specs.Table.{Holds}
use Rattle.rebuild.specs.Tables.{votes_of}
use Rattle.rebuild.proofs.Whole.{added_below}
use Rattle.rebuild.proofs.add_all.Given as goal

abbrev pub invariant-loop-r : goal.invariant-loop-r
invariant-loop-r l = Holds l.votes.shape.c (place_all (prefix (with_normal l.basis.count.top (votes_of l.votes))) (added_below l.votes.shape.n l.basis.count.top (votes_of l.votes) l.r)) l.table
