-- A number of 64 bits as two of 32.
use Rattle.std.specs.Prelude.{ℕ, ◌+◌, ◌*◌, ◌^◌}
use Rattle.digest.specs.declared.Halves.{Halves}

-- the number whose halves they are
abbrev pub whole_of : Halves → ℕ
whole_of h = h.high * 2 ^ 32 + h.low
