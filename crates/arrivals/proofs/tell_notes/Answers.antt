use mathlib.Core.Path.{ap, ◌∙◌}
use native.Mathlib.Omega.{arith}
use lib.ListN.{length}
use Rattle.rules.proofs.Entries.{EntryFits, long_entry}
use Rattle.handler.proofs.Leaders.{asks_note}
use Rattle.arrivals.proofs.TakeWays.{entry_alone, notes_told, notes_room}
use borrow.Author.Rules.{rules}
use Rattle.arrivals.proofs.tell_notes.Goals as goal

pub tell_leaders-requires : goal.tell_leaders-requires
tell_leaders-requires c = let n = ap length c.put_entry.ensures ∙ ap length (entry_alone c.args.e) ∙ long_entry c.args.e in (search rules, asks_note _ n, notes_room c.requires.0 c.args.e _ _ n c.requires.1)

pub returns : goal.returns
returns c = let f : EntryFits c.args.e = omega arith in rw (notes_told c.requires.0 c.args.e _ (c.put_entry.ensures ∙ entry_alone c.args.e) f) at c.tell_leaders.ensures
