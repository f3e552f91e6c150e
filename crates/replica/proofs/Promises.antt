-- Any two outcomes that satisfy the statement of a function that a host calls coincide: the answer, the state's bytes, the outgoing buffer. What is handed on as it is
-- given has its theorem in the crate that gives it. Assumes nothing.
use Prim.Native.Nat.{ℕ}
use mathlib.Core.Path.{◌≡◌, sym, ◌∙◌}
use mathlib.Core.List.{List}
use Rattle.rules.specs.declared.Shape.{Shape}
use Rattle.replica.specs.Face.{Given}
use Rattle.replica.specs.Statements.{StepsByNumber, Starts, Orders, Judges, Reads, Writes, IsVersion, IsCore}

-- ---- the memory changes

pub step_number_one : (sh : Shape) (b msg out : List ℕ) (r q : ℕ) (c d o u : List ℕ) → StepsByNumber sh b msg out r c o → StepsByNumber sh b msg out q d u → (r ≡ q) × (c ≡ d) × (o ≡ u)
step_number_one sh b msg out r q c d o u g h = (g.number ∙ sym h.number, g.state ∙ sym h.state, g.out ∙ sym h.out)

pub start_one : (sh : Shape) (group replica : ℕ) (b : List ℕ) (r q : ℕ) (c d : List ℕ) → Starts sh group replica b r c → Starts sh group replica b q d → (r ≡ q) × (c ≡ d)
start_one sh group replica b r q c d g h = (g.number ∙ sym h.number, g.state ∙ sym h.state)

pub order_one : (sh : Shape) (b : List ℕ) (r q : ℕ) (c d : List ℕ) → Orders sh b r c → Orders sh b q d → (r ≡ q) × (c ≡ d)
order_one sh b r q c d g h = (g.number ∙ sym h.number, g.state ∙ sym h.state)

pub write_one : (n s : ℕ) (given : Given) (numbers views entries out : List ℕ) (r q : ℕ) (o u : List ℕ) → Writes n s given numbers views entries out r o → Writes n s given numbers views entries out q u → (r ≡ q) × (o ≡ u)
write_one n s given numbers views entries out r q o u g h = (g.number ∙ sym h.number, g.out ∙ sym h.out)

-- ---- the answer alone

pub good_one : (sh : Shape) (b : List ℕ) (r q : ℕ) → Judges sh b r → Judges sh b q → r ≡ q
good_one sh b r q e f = e ∙ sym f

pub read_one : (n s : ℕ) (msg : List ℕ) (r q : ℕ) → Reads n s msg r → Reads n s msg q → r ≡ q
read_one n s msg r q e f = e ∙ sym f

pub version_one : (r q : ℕ) → IsVersion r → IsVersion q → r ≡ q
version_one r q e f = e ∙ sym f

pub is_model_one : (r q : ℕ) → IsCore r → IsCore q → r ≡ q
is_model_one r q e f = e ∙ sym f
