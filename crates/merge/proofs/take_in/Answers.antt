use Rattle.merge.proofs.Taking.{stays, replaces, no_place}
use Rattle.merge.proofs.Rows.{find_asked, took_row, row_asked, took_new, took_full}
use Rattle.merge.proofs.take_in.Goals as goal

pub find_row-i-requires : goal.find_row-i-requires
find_row-i-requires c = find_asked _ _ _ _ c.requires.0 c.count-n.ensures c.requires.1

pub returns-then-e-entry_of : goal.returns-then-e-entry_of
returns-then-e-entry_of c = took_row _ _ _ _ _ c.requires.0 c.count-n.ensures c.find_row-i.ensures _ c.requires.1 _ c.if-i-n.true (stays _ _ _ _ _ c.requires.0 c.count-n.ensures c.find_row-i.ensures _ c.entry_of.ensures c.if-i-n.true c.if-e-entry_of.true)

pub returns-then-i-n : goal.returns-then-i-n
returns-then-i-n c = took_row _ _ _ _ _ c.requires.0 c.count-n.ensures c.find_row-i.ensures _ c.requires.1 _ c.if-i-n.true (replaces _ _ _ _ _ c.requires.0 c.count-n.ensures c.find_row-i.ensures _ _ c.entry_of.ensures c.if-i-n.true c.if-e-entry_of.false c.replace_at.ensures)

pub returns-then-c-n : goal.returns-then-c-n
returns-then-c-n c = took_full _ _ _ _ (no_place _ _ _ _ _ c.requires.0 c.count-n.ensures c.find_row-i.ensures _ c.if-i-n.false c.if-c-n.true)

pub add_row-requires : goal.add_row-requires
add_row-requires c = row_asked _ _ _ _ _ c.requires.0 c.count-n.ensures c.find_row-i.ensures _ c.requires.1 _ c.if-i-n.false c.append.ensures

pub returns : goal.returns
returns c = took_new _ _ _ _ _ c.requires.0 c.count-n.ensures c.find_row-i.ensures _ c.requires.1 _ c.if-i-n.false c.append.ensures _ c.add_row.ensures
