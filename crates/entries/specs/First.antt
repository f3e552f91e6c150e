-- Of entries in a row: the row of a transaction, and the row that an entry comes before.
use Rattle.std.specs.Prelude.{ℕ, ◌<◌, ◌≡◌, Bool, true, ◌&&◌, eqb}
use Rattle.rules.specs.Entry.{before}
use Rattle.rules.specs.declared.Entry.{Entry}
use Rattle.repeats.specs.Repeat.{first_to}

-- the entry has the transaction of this request and coordinator
abbrev pub is_of : ℕ → ℕ → Entry → Bool
is_of request coordinator e = eqb coordinator e.coordinator && eqb request e.request

-- of the first n of entries in a row: the first that has the transaction, n where none has
abbrev pub find_row : (ℕ → Entry) → ℕ → ℕ → ℕ → ℕ
find_row f request coordinator n = first_to (λ i. is_of request coordinator (f i)) n

-- of the first n of entries in a row: the first that e comes before, n where there is none
abbrev pub place_row : (ℕ → Entry) → Entry → ℕ → ℕ
place_row f e n = first_to (λ i. before e (f i)) n

-- of the first n of entries in a row: e comes before each that stands after one that it comes before
unfoldable pub Rises : (ℕ → Entry) → Entry → ℕ → Type 0
Rises f e n = (i j : ℕ) → i < j → j < n → before e (f i) ≡ true → before e (f j) ≡ true
