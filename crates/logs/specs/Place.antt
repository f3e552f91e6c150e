-- Entries in a row of bytes, and an entry that can stand where it does in a log, its transaction aside.
use Rattle.std.specs.Prelude.{ℕ, zero, suc, ◌+◌, ◌*◌, ◌≤◌, Bool, true, ◌&&◌, not, List, [], ◌∷◌, length}
use Rattle.octets.specs.Bytes.{num}
use Rattle.rules.specs.Group.{holds}
use Rattle.rules.specs.Entry.{entry_fits, before, last_before}
use Rattle.rules.specs.Read.{entry_at}
use Rattle.rules.specs.declared.Entry.{Entry}

-- entry i of those that stand in b from `at` on
abbrev pub row_at : List ℕ → ℕ → ℕ → Entry
row_at b at i = entry_at b (at + 24 * i)

-- after the entry `last`, in a log of group k: the entry is in range and lies after `last`, and its mask holds k, and j too
unfoldable pub fits : ℕ → ℕ → ℕ → Entry → Entry → Bool
fits s k j last e = entry_fits s e && (before last e && (holds e.mask k && holds e.mask j))

-- each entry fits after the one before it, and the first after `last`
unfoldable pub fit_from : ℕ → ℕ → Entry → List Entry → Bool
fit_from s k last [] = true
fit_from s k last (e ∷ es) = fits s k k last e && fit_from s k e es

-- of entries in a row: the last of the first i, d where i is 0
unfoldable pub last_from : Entry → (ℕ → Entry) → ℕ → Entry
last_from d f zero = d
last_from d f (suc i) = f i

-- entry i of entries in a row does not fit after the one before it, the first after d
abbrev pub unfit_from : ℕ → ℕ → ℕ → Entry → (ℕ → Entry) → ℕ → Bool
unfit_from s k j d f i = not (fits s k j (last_from d f i) (f i))

-- the first after nothing
abbrev pub unfit_at : ℕ → ℕ → ℕ → (ℕ → Entry) → ℕ → Bool
unfit_at s k j f i = not (fits s k j (last_before f i) (f i))

-- a table with room for c entries lies inside b at `at`, and has no more of them
pub record Within (c : ℕ) (b : List ℕ) (at : ℕ) : Type 0 where
  pub ends : at + (4 + 24 * c) ≤ length b
  pub room : num b at 4 ≤ c
