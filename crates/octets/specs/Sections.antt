-- A list of bytes as sections in a row, and any list cut at given lengths.
use Rattle.std.specs.Prelude.{ℕ, zero, suc, ◌+◌, List, [], ◌∷◌, ◌++◌, length}
use Rattle.octets.specs.Bytes.{part}

unfoldable pub concat : List (List ℕ) → List ℕ
concat [] = []
concat (s ∷ ss) = s ++ concat ss

-- where section i begins
abbrev pub offset : List (List ℕ) → ℕ → ℕ
offset ss zero = 0
offset [] (suc i) = 0
offset (s ∷ ss) (suc i) = length s + offset ss i

-- the parts of b from `at` on, of the lengths named
abbrev pub cuts : List ℕ → ℕ → List ℕ → List (List ℕ)
cuts b at [] = []
cuts b at (n ∷ ns) = part b at n ∷ cuts b (at + n) ns

abbrev pub total : List ℕ → ℕ
total [] = 0
total (n ∷ ns) = n + total ns
