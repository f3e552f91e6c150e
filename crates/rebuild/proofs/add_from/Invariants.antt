use mathlib.Core.Path.{◌≡◌}
use mathlib.Core.Option.{none}
use lib.ListN.{length, get_or, take}
use Rattle.rules.specs.Choice.{keep}
use Rattle.rules.specs.Entry.{place_all}
use Rattle.rules.specs.Image.{table_at}
use Rattle.entries.specs.Table.{Holds}
use Rattle.ballots.specs.Ballots.{vote_of}
use Rattle.rebuild.specs.Tables.{votes_of}
use Rattle.rebuild.specs.Rebuild.{is_new}
use Rattle.rebuild.proofs.add_from.Given as goal

abbrev pub invariant-loop-i : goal.invariant-loop-i
invariant-loop-i l = (l.number ≡ length (vote_of (get_or (votes_of l.votes) l.r none)).log) × Holds l.votes.shape.c (place_all (table_at l.votes.shape.c l.initial.table 0) (keep (is_new l.votes.shape.n l.basis.count.top (votes_of l.votes) l.r) (take l.i (vote_of (get_or (votes_of l.votes) l.r none)).log))) l.table
