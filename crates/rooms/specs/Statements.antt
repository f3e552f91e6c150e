-- The statements of a step and of the call that orders an older state, as predicates over what is given and what is left. That of a step is the whole `ensures` of `step`,
-- here and in `replica`, and proofs/Promises shows that two outcomes that satisfy a statement are one.
use Rattle.std.specs.Prelude.{ℕ, ◌≡◌, List, []}
use Rattle.rules.specs.Bytes.{left, step_bytes, order_bytes}
use Rattle.rules.specs.Refusals.{Answer}
use Rattle.rules.specs.declared.Shape.{Shape}

-- step: of the state's bytes b, a message and the buffer out are left the answer a, the state's bytes b' and the buffer out'
abbrev pub Steps : Shape → (b message out : List ℕ) → (a : Answer) (b' out' : List ℕ) → Type 0
Steps shape b message out a b' out' = left a b' out' ≡ step_bytes shape b message out

-- order: of the state's bytes b are left the answer a and the state's bytes b'
abbrev pub Orders : Shape → (b : List ℕ) → (a : Answer) (b' : List ℕ) → Type 0
Orders shape b a b' = left a b' [] ≡ order_bytes shape b
