-- Any two outcomes that satisfy the statement of a step coincide, the answer, the state's bytes, the outgoing buffer, and so do two of the call that orders a state. Assumes nothing.
use Prim.Native.Nat.{ℕ}
use mathlib.Core.Path.{◌≡◌, sym, ◌∙◌}
use mathlib.Core.List.{List, []}
use Rattle.rules.specs.Refusals.{Answer}
use Rattle.rules.specs.declared.Shape.{Shape}
use Rattle.fresh.proofs.Promises.{left_one}
use Rattle.rooms.specs.Statements.{Steps, Orders}

pub step_one : (sh : Shape) (b msg out : List ℕ) (x y : Answer) (c d o u : List ℕ) → Steps sh b msg out x c o → Steps sh b msg out y d u → (x ≡ y) × (c ≡ d) × (o ≡ u)
step_one sh b msg out x y c d o u e f = left_one x y c d o u (e ∙ sym f)

pub order_one : (sh : Shape) (b : List ℕ) (x y : Answer) (c d : List ℕ) → Orders sh b x c → Orders sh b y d → (x ≡ y) × (c ≡ d)
order_one sh b x y c d e f = let h = left_one x y c d [] [] (e ∙ sym f) in (h.0, h.1)
