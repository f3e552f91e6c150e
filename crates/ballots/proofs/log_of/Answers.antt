use mathlib.Core.Path.{refl}
use Rattle.ballots.proofs.Listed.{log_sent, log_own, log_kept}
use borrow.Author.Rules.{rules}
use Rattle.ballots.proofs.log_of.Goals as goal

pub returns-then-r-cast : goal.returns-then-r-cast
returns-then-r-cast c = log_sent _ _ _ _ c.requires.0 _ c.requires.1 _ c.if-r-cast.true refl

pub returns-then-cast : goal.returns-then-cast
returns-then-cast c = log_own _ _ _ _ c.requires.0 _ c.requires.1 c.requires.2 c.if-r-cast.false _ _ c.if-cast.true c.places_of-places.ensures.log (search rules)

pub returns : goal.returns
returns c = log_kept _ _ _ _ c.requires.0 _ c.requires.1 c.requires.2 c.if-r-cast.false _ _ c.if-cast.false _ c.vote_place-at.ensures refl (search rules)
