-- The heard points as they stand in bytes, and a point that a majority has reached.
use Rattle.std.specs.Prelude.{ℕ, ◌*◌, Bool, List, eqb, leb}
use Rattle.std.proofs.Math.Option.{Option}
use Rattle.octets.specs.Bytes.{items}
use Rattle.rules.specs.Choice.{pick, count}
use Rattle.rules.specs.Group.{majority}
use Rattle.rules.specs.Image.{point_at}
use Rattle.rules.specs.Commit.{has_reached, reached}

-- the heard points of n replicas
abbrev pub points : ℕ → List ℕ → List (Option ℕ)
points n b = items (point_at b) 9 0 n

-- replica i has reached c, where b holds the heard points
unfoldable pub reached_in : ℕ → ℕ → List ℕ → ℕ → ℕ → Bool
reached_in own len b c i = pick (eqb i own) (leb c len) (has_reached c (point_at b (9 * i)))

-- at least F+1 of the n replicas have reached c
unfoldable pub held : ℕ → ℕ → ℕ → List (Option ℕ) → ℕ → Bool
held n own len heard c = leb (majority n) (count (reached own len heard c) n)
