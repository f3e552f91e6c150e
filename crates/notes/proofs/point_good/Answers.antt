use Rattle.notes.proofs.Tested.{unheard_good, heard_good}
use Rattle.notes.proofs.point_good.Goals as goal

pub returns-then-flag-eq0 : goal.returns-then-flag-eq0
returns-then-flag-eq0 c = unheard_good _ _ _ _ (λ i. (c.type_inv.t i).fits) c.requires c.get8-flag.ensures c.get64-stamp.ensures c.if-flag-eq0.true

pub returns : goal.returns
returns c = heard_good _ _ _ _ (λ i. (c.type_inv.t i).fits) c.requires c.get8-flag.ensures c.get64-stamp.ensures c.if-flag-eq0.false
