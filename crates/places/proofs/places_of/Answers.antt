use mathlib.Core.Path.{refl}
use native.Mathlib.Omega.{arith}
use Rattle.places.proofs.Sections.{products, in_a_row, marks}
use Rattle.places.proofs.places_of.Goals as goal

pub overflow_mul-votes : goal.overflow_mul-votes
overflow_mul-votes c = omega (arith, products c.args.shape c.requires)

pub overflow_add-votes : goal.overflow_add-votes
overflow_add-votes c = omega (arith, products c.args.shape c.requires)

pub overflow_add-votes-2 : goal.overflow_add-votes-2
overflow_add-votes-2 c = omega (arith, products c.args.shape c.requires)

pub overflow_mul-draft : goal.overflow_mul-draft
overflow_mul-draft c = omega (arith, products c.args.shape c.requires)

pub overflow_add-draft : goal.overflow_add-draft
overflow_add-draft c = omega (arith, products c.args.shape c.requires)

pub overflow_add-replies : goal.overflow_add-replies
overflow_add-replies c = omega (arith, products c.args.shape c.requires)

pub overflow_mul-end : goal.overflow_mul-end
overflow_mul-end c = omega (arith, products c.args.shape c.requires)

pub overflow_add-end : goal.overflow_add-end
overflow_add-end c = omega (arith, products c.args.shape c.requires)

pub returns : goal.returns
returns c = marks c.args.shape _ c.requires (in_a_row c.args.shape _ _ _ _ _ _ _ _ _ _ refl refl refl refl refl refl refl refl refl refl)
