-- Any two outcomes that satisfy the statements of the start and of the state's length coincide. Assumes nothing.
use Prim.Native.Nat.{ℕ}
use mathlib.Core.Path.{◌≡◌, refl, sym, ap, ◌∙◌}
use mathlib.Core.List.{List, []}
use Rattle.rules.specs.Bytes.{Left, left}
use Rattle.std.specs.Prelude.{Ok, Err}
use Rattle.rules.specs.Refusals.{Answer}
use Rattle.rules.specs.declared.Shape.{Shape}
use Rattle.rules.proofs.Answers.{left_answer}
use Rattle.fresh.specs.Statements.{Starts, Measures}

pub left_state : (x : Answer) (c o : List ℕ) → (left x c o).state ≡ c
left_state (Ok sent) c o = refl
left_state (Err r) c o = refl

pub left_out : (x : Answer) (c o : List ℕ) → (left x c o).out ≡ o
left_out (Ok sent) c o = refl
left_out (Err r) c o = refl

-- what is left says the answer itself, and every byte of state and buffer
pub left_one : (x y : Answer) (c d o u : List ℕ) → left x c o ≡ left y d u → (x ≡ y) × (c ≡ d) × (o ≡ u)
left_one x y c d o u e = (
  left_answer x y c d o u e,
  sym (left_state x c o) ∙ ap (λ (l : Left). l.state) e ∙ left_state y d u,
  sym (left_out x c o) ∙ ap (λ (l : Left). l.out) e ∙ left_out y d u,
)

-- a member is started in one way: one answer, and one memory
pub start_one : (sh : Shape) (k r : ℕ) (b : List ℕ) (x y : Answer) (c d : List ℕ) → Starts sh k r b x c → Starts sh k r b y d → (x ≡ y) × (c ≡ d)
start_one sh k r b x y c d e f = let z = left_one x y c d [] [] (e ∙ sym f) in (z.0, z.1)

pub length_one : (sh : Shape) (x y : ℕ) → Measures sh x → Measures sh y → x ≡ y
length_one sh x y p q = p ∙ sym q
