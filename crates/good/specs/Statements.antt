-- The statement of the check, as a predicate over what is given and the answer. Its `ensures` is the predicate, and proofs/Promises shows that two answers that satisfy
-- it are one.
use Rattle.std.specs.Prelude.{ℕ, ◌≡◌, Bool, List}
use Rattle.rules.specs.Image.{good_bytes, orderable}
use Rattle.rules.specs.declared.Shape.{Shape}

-- good: whether the bytes b are those of a good state is the answer r
abbrev pub Judges : Shape → (b : List ℕ) → (r : Bool) → Type 0
Judges shape b r = r ≡ good_bytes shape b

-- orderable: whether the bytes b are those of a state good but for the order of early is the answer r
abbrev pub Orders : Shape → (b : List ℕ) → (r : Bool) → Type 0
Orders shape b r = r ≡ orderable shape b
