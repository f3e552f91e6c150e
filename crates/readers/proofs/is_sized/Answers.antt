use mathlib.Core.Path.{sym, ◌∙◌}
use borrow.Author.Tests.{not-false}
use Rattle.places.proofs.Sections.{fits}
use Rattle.readers.proofs.Fields.{wrong_shape, right_shape}
use Rattle.readers.proofs.is_sized.Goals as goal

pub returns-then-not-shape_fits : goal.returns-then-not-shape_fits
returns-then-not-shape_fits c = wrong_shape c.args.shape c.args.state.now _ c.shape_fits.ensures c.if-not-shape_fits.true-raw

pub places_of-requires : goal.places_of-requires
places_of-requires c = fits _ (sym c.shape_fits.ensures ∙ not-false _ c.if-not-shape_fits.false-raw)

pub returns : goal.returns
returns c = right_shape c.args.shape c.args.state.now _ _ c.shape_fits.ensures c.if-not-shape_fits.false-raw c.places_of.ensures.end
