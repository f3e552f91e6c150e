use Prim.Native.Nat.{◌+◌, ◌≤◌}
use mathlib.Core.Path.{refl, sym, ◌∙◌}
use lib.ListN.{length}
use Rattle.std.proofs.lemmas.List.{length_push}
use Rattle.verify.proofs.Asked.{gathered_none, gathered_skip, gathered_room, gathered_next}
use Rattle.verify.proofs.Chunks.{chunk_turn}
use borrow.Author.Rules.{rules}
use Rattle.verify.proofs.gather.Goals as goal

pub loop-row-init : goal.loop-row-init
loop-row-init c = (search rules, tt, gathered_none _ _ _ _ _ _)

pub put_entry-requires : goal.put_entry-requires
put_entry-requires c =
    let at = chunk_turn c.into_iter-row-iterator.result c.args.t.now (search rules) (search rules) c.loop-row.yielded _ c.loop-row.yielded_by _ _ c.in-Some.row c.in-Some.is c.next.ensures.steps in
    gathered_room _ _ _ _ _ _ _ _ _ c.loop-row.invariant.2 at.0 c.requires _ (c.entry_at-e.ensures ∙ at.1) (sym c.is_asked.ensures ∙ c.if-is_asked.true)

pub overflow_add-end : goal.overflow_add-end
overflow_add-end c =
    let at = chunk_turn c.into_iter-row-iterator.result c.args.t.now (search rules) (search rules) c.loop-row.yielded _ c.loop-row.yielded_by _ _ c.in-Some.row c.in-Some.is c.next.ensures.steps in
    let r : c.loop-row.end + 24 ≤ length c.loop-row.out = gathered_room _ _ _ _ _ _ _ _ _ c.loop-row.invariant.2 at.0 c.requires _ (c.entry_at-e.ensures ∙ at.1) (sym c.is_asked.ensures ∙ c.if-is_asked.true) in
    search rules

pub loop-row-preserved-then-is_asked : goal.loop-row-preserved-then-is_asked
loop-row-preserved-then-is_asked c =
    let at = chunk_turn c.into_iter-row-iterator.result c.args.t.now (search rules) (search rules) c.loop-row.yielded _ c.loop-row.yielded_by _ _ c.in-Some.row c.in-Some.is c.next.ensures.steps in
    (search rules, tt, rw length_push (gathered_next _ _ _ _ _ _ _ _ _ c.loop-row.invariant.2 at.0 c.requires _ (c.entry_at-e.ensures ∙ at.1) (sym c.is_asked.ensures ∙ c.if-is_asked.true) _ _ refl c.put_entry.ensures))

pub loop-row-preserved : goal.loop-row-preserved
loop-row-preserved c =
    let at = chunk_turn c.into_iter-row-iterator.result c.args.t.now (search rules) (search rules) c.loop-row.yielded _ c.loop-row.yielded_by _ _ c.in-Some.row c.in-Some.is c.next.ensures.steps in
    (search rules, tt, rw length_push (gathered_skip _ _ _ _ _ _ _ _ _ c.loop-row.invariant.2 at.0 (sym (rw (c.entry_at-e.ensures ∙ at.1) at c.is_asked.ensures) ∙ c.if-is_asked.false)))
