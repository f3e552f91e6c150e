use native.Mathlib.Omega.{arith}
use mathlib.Core.Path.{refl}
use Rattle.rebuild.proofs.Tables.{index_start, index_among}
use Rattle.rebuild.proofs.index_votes.Goals as goal

pub loop-r-init : goal.loop-r-init
loop-r-init c = index_start _ _ _ (omega (arith, c.requires.sent.stands.fits.small))

pub index_vote-index-requires : goal.index_vote-index-requires
index_vote-index-requires c = (c.requires, c.loop-r-test.true, c.loop-r.invariant)

pub loop-r-preserved : goal.loop-r-preserved
loop-r-preserved c = c.index_vote-index.ensures

pub returns : goal.returns
returns c = (refl, record { given = c.requires; indexed = index_among _ _ _ _ _ c.loop-r.auto.r-end c.loop-r.invariant })
