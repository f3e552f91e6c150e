use mathlib.Core.Path.{refl, sym, ◌∙◌}
use lib.ListN.{length}
use lib.Dec.{lit<}
use Rattle.octets.proofs.Laws.{bytes_known}
use Rattle.octets.specs.Bytes.{flat, items}
use Rattle.rules.specs.Image.{vote_length, reply_length, vote_bytes, reply_bytes, vote_at, reply_at}
use Rattle.form.proofs.Whole.{form_is, head_section_lem, lent_section, table_section, tables_whole, Bounds, bounds}
use Rattle.form.proofs.tables_form.Goals as goal
use Rattle.form.proofs.tables_form.Goals.{After-places_of-layout}

bound : (c : After-places_of-layout) → Bounds c.args.shape c.places_of-layout.result (length c.args.state.now)
bound c = bounds _ _ _ c.places_of-layout.ensures c.requires.size

pub table_form-log_fine-requires : goal.table_form-log_fine-requires
table_form-log_fine-requires c = ((bound (goal.at.table_form-log_fine-requires c).After-places_of-layout).log, c.requires.fits.small)

pub table_form-early_fine-requires : goal.table_form-early_fine-requires
table_form-early_fine-requires c = ((bound (goal.at.table_form-early_fine-requires c).After-places_of-layout).early, c.requires.fits.small)

pub table_form-late_fine-requires : goal.table_form-late_fine-requires
table_form-late_fine-requires c = ((bound (goal.at.table_form-late_fine-requires c).After-places_of-layout).late, c.requires.fits.small)

pub slice_bounds-votes_form-count : goal.slice_bounds-votes_form-count
slice_bounds-votes_form-count c = (bound (goal.at.slice_bounds-votes_form-count c).After-places_of-layout).votes

pub slice_bounds-votes_form-start : goal.slice_bounds-votes_form-start
slice_bounds-votes_form-start c = (bound (goal.at.slice_bounds-votes_form-start c).After-places_of-layout).votes

pub slice_bounds-votes_form-end : goal.slice_bounds-votes_form-end
slice_bounds-votes_form-end c = (bound (goal.at.slice_bounds-votes_form-end c).After-places_of-layout).votes_end

pub votes_form-votes_fine-requires : goal.votes_form-votes_fine-requires
votes_form-votes_fine-requires c = (sym c.votes_form-arg-1.given.0 ∙ (bound (goal.at.votes_form-votes_fine-requires c).After-places_of-layout).votes_wide, c.requires.fits.small)

pub table_form-draft_fine-requires : goal.table_form-draft_fine-requires
table_form-draft_fine-requires c = ((bound (goal.at.table_form-draft_fine-requires c).After-places_of-layout).draft, c.requires.fits.small)

pub slice_bounds-replies_form-count : goal.slice_bounds-replies_form-count
slice_bounds-replies_form-count c = (bound (goal.at.slice_bounds-replies_form-count c).After-places_of-layout).replies

pub slice_bounds-replies_form-start : goal.slice_bounds-replies_form-start
slice_bounds-replies_form-start c = (bound (goal.at.slice_bounds-replies_form-start c).After-places_of-layout).replies

pub slice_bounds-replies_form-end : goal.slice_bounds-replies_form-end
slice_bounds-replies_form-end c = (bound (goal.at.slice_bounds-replies_form-end c).After-places_of-layout).replies_end

pub replies_form-replies_fine-requires : goal.replies_form-replies_fine-requires
replies_form-replies_fine-requires c = (sym c.replies_form-arg-1.given.0 ∙ (bound (goal.at.replies_form-replies_fine-requires c).After-places_of-layout).replies_wide, c.requires.fits.small)

pub returns : goal.returns
returns c = let q = c.requires in let p = c.places_of-layout.ensures in let w = bound (goal.at.returns c).After-places_of-layout in let sh = c.args.shape in let b = c.args.state.now in let bs = bytes_known b (λ i. (c.type_inv.state i).fits) in let lent = lent_section sh b q.size in let table = table_section sh b q.size in tables_whole sh b q.size bs _ _ _ _ _ _ _ (head_section_lem sh b q.size bs _ c.head_form-head_fine.ensures) (table 3 _ _ (lit< tt) p.log refl w.log c.table_form-log_fine.ensures ∙ sym (form_is sh b 3)) (table 4 _ _ (lit< tt) p.early refl w.early c.table_form-early_fine.ensures ∙ sym (form_is sh b 4)) (table 5 _ _ (lit< tt) p.late refl w.late c.table_form-late_fine.ensures ∙ sym (form_is sh b 5)) (lent (λ x. flat (vote_bytes sh.c) (items (vote_at sh.c x) (vote_length sh.c) 0 sh.n)) 7 _ _ _ (lit< tt) p.votes w.votes_wide c.votes_form-votes_fine.ensures ∙ sym (form_is sh b 7)) (table 8 _ _ (lit< tt) p.draft refl w.draft c.table_form-draft_fine.ensures ∙ sym (form_is sh b 8)) (lent (λ x. flat (reply_bytes sh.c) (items (reply_at sh.c x) (reply_length sh.c) 0 sh.s)) 9 _ _ _ (lit< tt) p.replies w.replies_wide c.replies_form-replies_fine.ensures ∙ sym (form_is sh b 9))
