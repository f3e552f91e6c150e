use mathlib.Core.Bool.{not}
use mathlib.Core.Path.{sym, ◌∙◌, ap}
use borrow.Author.Tests.{ne_eqb}
use Rattle.octets.proofs.Laws.{bytes_known}
use Rattle.places.proofs.Sections.{fits}
use Rattle.good.proofs.Whole.{sizes_wrong, length_wrong, not_formed, head_unfit, notes_unfit, notes_formed, all_good, formed}
use Rattle.good.proofs.judge.Goals as goal

pub returns-then-not-shape_fits : goal.returns-then-not-shape_fits
returns-then-not-shape_fits c = sizes_wrong _ _ _ (sym c.shape_fits.ensures ∙ c.if-not-shape_fits.true)

pub places_of-requires : goal.places_of-requires
places_of-requires c = fits _ (sym c.shape_fits.ensures ∙ c.if-not-shape_fits.false)

pub returns-then-state-places_of : goal.returns-then-state-places_of
returns-then-state-places_of c = length_wrong _ _ _ (ne_eqb _ _ (λ e. c.if-state-places_of.true (e ∙ sym c.places_of.ensures.end)))

pub tables_form-requires : goal.tables_form-requires
tables_form-requires c = record { fits = (fits _ (sym c.shape_fits.ensures ∙ c.if-not-shape_fits.false)); size = (c.if-state-places_of.false ∙ c.places_of.ensures.end) }

pub returns-then-not-tables_form : goal.returns-then-not-tables_form
returns-then-not-tables_form c = not_formed _ _ _ (c.if-state-places_of.false ∙ c.places_of.ensures.end) _ c.tables_form.ensures (ap not c.if-not-tables_form.true)

pub head_fits-requires : goal.head_fits-requires
head_fits-requires c = record { fits = (fits _ (sym c.shape_fits.ensures ∙ c.if-not-shape_fits.false)); size = (c.if-state-places_of.false ∙ c.places_of.ensures.end) }

pub returns-then-not-head_fits : goal.returns-then-not-head_fits
returns-then-not-head_fits c = head_unfit _ _ _ (c.if-state-places_of.false ∙ c.places_of.ensures.end) (bytes_known c.args.state.now (λ i. (c.type_inv.state i).fits)) _ c.head_fits.ensures (ap not c.if-not-head_fits.true)

pub notes_fit-requires : goal.notes_fit-requires
notes_fit-requires c = record { fits = (fits _ (sym c.shape_fits.ensures ∙ c.if-not-shape_fits.false)); size = (c.if-state-places_of.false ∙ c.places_of.ensures.end) }

pub returns-then-not-notes_fit : goal.returns-then-not-notes_fit
returns-then-not-notes_fit c = notes_unfit _ _ _ (c.if-state-places_of.false ∙ c.places_of.ensures.end) (bytes_known c.args.state.now (λ i. (c.type_inv.state i).fits)) _ c.notes_fit.ensures (ap not c.if-not-notes_fit.true)

pub rest_good-requires : goal.rest_good-requires
rest_good-requires c = formed _ _ (record { fits = (fits _ (sym c.shape_fits.ensures ∙ c.if-not-shape_fits.false)); size = (c.if-state-places_of.false ∙ c.places_of.ensures.end) }) (bytes_known c.args.state.now (λ i. (c.type_inv.state i).fits)) (sym c.tables_form.ensures ∙ c.if-not-tables_form.false) (notes_formed _ _ _ c.notes_fit.ensures (ap not c.if-not-notes_fit.false)) (sym c.head_fits.ensures ∙ c.if-not-head_fits.false)

pub returns : goal.returns
returns c = all_good _ _ _ (c.if-state-places_of.false ∙ c.places_of.ensures.end) (bytes_known c.args.state.now (λ i. (c.type_inv.state i).fits)) _ _ _ _ _ c.shape_fits.ensures (ap not c.if-not-shape_fits.false) c.tables_form.ensures (ap not c.if-not-tables_form.false) c.head_fits.ensures (ap not c.if-not-head_fits.false) c.notes_fit.ensures (ap not c.if-not-notes_fit.false) c.rest_good.ensures
