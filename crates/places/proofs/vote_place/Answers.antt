use Prim.Native.Nat.{◌+◌, ◌*◌}
use native.Mathlib.Omega.{arith}
use Rattle.rules.specs.Image.{vote_length}
use Rattle.places.specs.Layout.{PlaceAt}
use Rattle.places.proofs.Spots.{placed}
use Rattle.places.proofs.vote_place.Goals as goal
use Rattle.places.proofs.vote_place.Goals.{After-places_of-places}

spot : (c : After-places_of-places) → PlaceAt c.args.shape 7 (vote_length c.args.shape.c) c.args.r (c.places_of-places.result.votes + c.places_of-places.result.vote * c.args.r)
spot c =
    placed c.args.shape 7 (vote_length c.args.shape.c) c.args.shape.n c.args.r c.places_of-places.result.votes c.places_of-places.result.vote c.places_of-places.ensures.votes c.places_of-places.ensures.vote (omega arith) c.requires.1

pub overflow_mul-result : goal.overflow_mul-result
overflow_mul-result c = omega (arith, (spot c.before).within, c.places_of-places.ensures.small)

pub overflow_add-result : goal.overflow_add-result
overflow_add-result c = omega (arith, (spot c.before.before).within, c.places_of-places.ensures.small)

pub returns : goal.returns
returns c = spot c.before.before
