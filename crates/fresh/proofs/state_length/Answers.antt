use mathlib.Core.Path.{◌≡◌, sym, ◌∙◌}
use mathlib.Core.Bool.{true}
use borrow.Author.Tests.{not-true, not-false}
use Rattle.rules.specs.Group.{shape_fits}
use Rattle.places.proofs.Sections.{fits}
use Rattle.fresh.proofs.Fresh.{length_none, length_some}
use Rattle.fresh.proofs.state_length.Goals as goal
use Rattle.fresh.proofs.state_length.Goals.{Else-not-shape_fits}

shaped : (c : Else-not-shape_fits) → shape_fits (record { n = c.args.n; s = c.args.s; c = c.args.c }) ≡ true
shaped c = sym c.shape_fits.ensures ∙ not-false _ c.if-not-shape_fits.false-raw

pub returns-then-not-shape_fits : goal.returns-then-not-shape_fits
returns-then-not-shape_fits c = length_none _ (sym c.shape_fits.ensures ∙ not-true _ c.if-not-shape_fits.true-raw)

pub places_of-requires : goal.places_of-requires
places_of-requires c = fits _ (shaped c)

pub returns : goal.returns
returns c = c.places_of.ensures.end ∙ length_some _ (shaped (goal.at.returns c).Else-not-shape_fits)
