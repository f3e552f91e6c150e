use mathlib.Core.Path.{refl, subst}
use mathlib.Core.List.{List}
use Rattle.rules.specs.declared.Entry.{Entry}
use Rattle.entries.specs.Rows.{Found}
use Rattle.entries.specs.Table.{Holds}
use Rattle.entries.proofs.Table.{is_table}
use Rattle.merge.proofs.Taking.{row_start, row_again, row_full}
use Rattle.merge.proofs.Rows.{read_found, rows_again, took_full}
use borrow.Author.Rules.{rules}
use Rattle.merge.proofs.take_all.Goals as goal

pub loop-i-init : goal.loop-i-init
loop-i-init c = (refl, refl, subst (λ (ds : List Entry). Holds c.args.c ds c.args.t.now) (row_start _ _ _) c.requires.0, subst (λ (ds : List Entry). Found ds c.args.slots.now) (row_start _ _ _) c.requires.2)

pub take_in-requires : goal.take_in-requires
take_in-requires c = (is_table _ _ _ c.loop-i.invariant.2, read_found _ _ _ _ c.loop-i.invariant.2 c.loop-i.invariant.3)

pub returns-then-not-take_in : goal.returns-then-not-take_in
returns-then-not-take_in c = took_full _ _ _ _ (row_full _ _ _ _ _ _ _ _ _ c.loop-i.invariant.2 c.entry_at-e.ensures c.take_in.ensures.taken _ c.loop-i-test.true c.if-not-take_in.true)

pub loop-i-preserved : goal.loop-i-preserved
loop-i-preserved c = (search rules, search rules, row_again _ _ _ _ _ _ _ _ _ c.loop-i.invariant.2 c.entry_at-e.ensures c.take_in.ensures.taken c.if-not-take_in.false, rows_again _ _ _ _ _ _ _ _ _ _ c.loop-i.invariant.2 c.entry_at-e.ensures c.take_in.ensures c.if-not-take_in.false)
