use mathlib.Core.Path.{◌≡◌, sym, ◌∙◌}
use mathlib.Core.Bool.{true}
use Prim.Native.Nat.{◌<◌}
use native.Mathlib.Omega.{arith}
use lib.ListN.{length}
use borrow.Author.Tests.{not-true, not-false}
use Rattle.rules.specs.Group.{shape_fits}
use Rattle.rules.specs.Image.{state_length}
use Rattle.places.specs.Layout.{Fits}
use Rattle.places.proofs.Sections.{fits}
use Rattle.fresh.proofs.Fresh.{fresh_laid, started, wrong_shape, wrong_group, wrong_replica, wrong_size}
use borrow.Author.Rules.{rules}
use Rattle.fresh.proofs.start.Goals as goal
use Rattle.fresh.proofs.start.Goals.{Else-not-shape_fits, Else-shape-replica, Else-state-places_of}

shaped : (c : Else-not-shape_fits) → shape_fits c.args.shape ≡ true
shaped c = sym c.shape_fits.ensures ∙ not-false _ c.if-not-shape_fits.false-raw

narrow : (c : Else-shape-replica) → (c.args.group < 256) × (c.args.replica < 256)
narrow c =
    let f : Fits c.args.shape = fits _ (sym c.shape_fits.ensures ∙ not-false _ c.if-not-shape_fits.false-raw) in
    (omega (arith, c.if-shape-group.false), omega (arith, c.if-shape-replica.false))

sized : (c : Else-state-places_of) → length c.args.state.now ≡ state_length c.args.shape
sized c = c.if-state-places_of.false ∙ c.places_of.ensures.end

pub returns-then-not-shape_fits : goal.returns-then-not-shape_fits
returns-then-not-shape_fits c = wrong_shape _ _ _ _ (sym c.shape_fits.ensures ∙ not-true _ c.if-not-shape_fits.true-raw)

pub returns-then-shape-group : goal.returns-then-shape-group
returns-then-shape-group c = wrong_group _ _ _ _ c.if-shape-group.true

pub returns-then-shape-replica : goal.returns-then-shape-replica
returns-then-shape-replica c = wrong_replica _ _ _ _ c.if-shape-replica.true

pub places_of-requires : goal.places_of-requires
places_of-requires c = fits _ (shaped (goal.at.places_of-requires c).Else-not-shape_fits)

pub returns-then-state-places_of : goal.returns-then-state-places_of
returns-then-state-places_of c = wrong_size _ _ _ _ (λ e. c.if-state-places_of.true (e ∙ sym c.places_of.ensures.end))

pub overflow_cast-group : goal.overflow_cast-group
overflow_cast-group c = omega (arith, (narrow (goal.at.overflow_cast-group c).Else-shape-replica).0)

pub put8-requires : goal.put8-requires
put8-requires c = let e = sized (goal.at.put8-requires c).Else-state-places_of in search rules

pub overflow_cast-replica : goal.overflow_cast-replica
overflow_cast-replica c = omega (arith, (narrow (goal.at.overflow_cast-replica c).Else-shape-replica).1)

pub put8-requires-2 : goal.put8-requires-2
put8-requires-2 c = let e = sized (goal.at.put8-requires-2 c).Else-state-places_of in search rules

pub put8-requires-3 : goal.put8-requires-3
put8-requires-3 c = let e = sized (goal.at.put8-requires-3 c).Else-state-places_of in search rules

pub returns : goal.returns
returns c = let l = sized (goal.at.returns c).Else-state-places_of in started _ _ _ _ _ (shaped (goal.at.returns c).Else-not-shape_fits) c.if-shape-group.false c.if-shape-replica.false l (fresh_laid _ _ _ _ _ _ _ _ l c.fill_zero.ensures c.put8.ensures c.put8-2.ensures c.put8-3.ensures)
