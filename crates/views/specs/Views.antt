-- What a new view leaves in a state, and in its bytes.
use Rattle.std.specs.Prelude.{ℕ, ◌+◌, ◌*◌, ◌≤◌, min, ◌≡◌, List, [], length, take, drop, replicate}
use Rattle.std.proofs.Math.Option.{none}
use Rattle.octets.specs.Bytes.{le, num, part, splice, items}
use Rattle.octets.specs.Sections.{total}
use Rattle.rules.specs.State.{with_waiting, with_change, State}
use Rattle.rules.specs.Image.{table_length, zero_bytes, lengths, at_gvec, at_early}
use Rattle.rules.specs.declared.Shape.{Shape}
use Rattle.places.specs.Layout.{start_of}

-- the gVec that stands in a message
abbrev pub views_of : Shape → List ℕ → List ℕ
views_of sh msg = items (λ a. num msg a 4) 4 16 sh.s

-- early, late, notes, votes, draft and replies empty
abbrev pub emptied : Shape → State → State
emptied sh st =
    with_waiting [] [] []
    (with_change (replicate sh.n none) [] st.change.boundary (replicate sh.s none) st)

-- how many bytes early, late, notes, votes, draft and replies have
abbrev pub tables_length : Shape → ℕ
tables_length sh = total (take 6 (drop at_early (lengths sh)))

-- the bytes are a count, rows of k bytes, and zeros behind those counted up to room for c rows
pub record Spare (k c : ℕ) (x : List ℕ) : Type 0 where
  pub size : length x ≡ 4 + k * c
  pub room : num x 0 4 ≤ c
  pub free : (rest : ℕ) → k * num x 0 4 + rest ≡ k * c → part x (4 + k * num x 0 4) rest ≡ zero_bytes rest

-- at a stand a flag, what else precedes a table, and a table of entries with room for c, all zeros where the flag is not set
pub record Kept (head c : ℕ) (b : List ℕ) (a : ℕ) : Type 0 where
  pub within : a + (head + table_length c) ≤ length b
  pub unset : num b a 1 ≡ 0 → part b a (head + table_length c) ≡ zero_bytes (head + table_length c)
  pub table : Spare 24 c (part b (a + head) (table_length c))

-- the gView and the gVec of a message written
abbrev pub taken_in : Shape → List ℕ → ℕ → List ℕ → List ℕ
taken_in sh b view msg = splice (splice b 8 (le 4 view)) (start_of sh at_gvec) (part msg 16 (4 * sh.s))

-- the numbers of a view that starts with a log of this length written
abbrev pub begun_in : List ℕ → ℕ → ℕ → List ℕ
begun_in b view len = splice (splice (splice (splice (splice b 2 (le 1 1)) 12 (le 4 view)) 24 (le 8 len)) 32 (le 8 (min (num b 32 8) len))) 40 (le 8 0)
