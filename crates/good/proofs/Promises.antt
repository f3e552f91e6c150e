-- Any two answers that satisfy the statement of a check coincide. Assumes nothing.
use Prim.Native.Nat.{ℕ}
use mathlib.Core.Path.{◌≡◌, sym, ◌∙◌}
use mathlib.Core.Bool.{Bool}
use mathlib.Core.List.{List}
use Rattle.rules.specs.declared.Shape.{Shape}
use Rattle.good.specs.Statements.{Judges, Orders}

pub good_one : (sh : Shape) (b : List ℕ) (x y : Bool) → Judges sh b x → Judges sh b y → x ≡ y
good_one sh b x y p q = p ∙ sym q

pub orderable_one : (sh : Shape) (b : List ℕ) (x y : Bool) → Orders sh b x → Orders sh b y → x ≡ y
orderable_one sh b x y p q = p ∙ sym q
