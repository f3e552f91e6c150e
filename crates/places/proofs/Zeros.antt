-- What is empty is zeros in the bytes of a state. Assumes nothing.
use Prim.Native.Nat.{ℕ, ◌+◌, ◌-◌, ◌*◌}
use mathlib.Core.Path.{◌≡◌, refl, ap, ap₂, ◌∙◌}
use mathlib.Core.Option.{none}
use mathlib.Core.List.{List, [], ◌∷◌, ◌++◌, map}
use native.Mathlib.Omega.{arith}
use lib.ListN.{length, replicate, length-replicate, replicate-append-replicate}
use Rattle.octets.specs.Bytes.{le, flat}
use Rattle.octets.specs.Sections.{concat, total}
use Rattle.octets.proofs.Laws.{le_zero}
use Rattle.rules.specs.Image.{table_length, note_length, vote_length, reply_length, zero_bytes, table_bytes, notes_section, vote_bytes, reply_bytes}
use Rattle.rules.specs.declared.Shape.{Shape}
use Rattle.rules.proofs.Tables.{flat_zeros}

-- zeros in sections
pub concat_zeros : (ns : List ℕ) → concat (map zero_bytes ns) ≡ zero_bytes (total ns)
unfolding concat
concat_zeros [] = refl
concat_zeros (n ∷ ns) = ap (λ (x : List ℕ). zero_bytes n ++ x) (concat_zeros ns) ∙ replicate-append-replicate {A = ℕ} n (total ns) 0

pub long_zeros : (ns : List ℕ) → map length (map zero_bytes ns) ≡ ns
long_zeros [] = refl
long_zeros (n ∷ ns) = ap₂ ◌∷◌ (length-replicate {A = ℕ} n 0) (long_zeros ns)

-- a count of 0, and free places alone
rows_zeros : (k c : ℕ) → le 4 0 ++ zero_bytes (k * (c - 0)) ≡ zero_bytes (4 + k * c)
rows_zeros k c =
    let z : c - 0 ≡ c = omega arith in
    rw (z, le_zero 4) (replicate-append-replicate {A = ℕ} 4 (k * c) 0)

pub table_zeros : (c : ℕ) → table_bytes c [] ≡ zero_bytes (table_length c)
unfolding table_bytes flat
table_zeros c = rows_zeros 24 c

pub notes_zeros : (sh : Shape) → notes_section sh [] ≡ zero_bytes (4 + note_length sh.s * sh.c)
unfolding notes_section flat
notes_zeros sh = rows_zeros (note_length sh.s) sh.c

pub votes_zeros : (c n : ℕ) → flat (vote_bytes c) (replicate n none) ≡ zero_bytes (vote_length c * n)
unfolding vote_bytes
votes_zeros c n = flat_zeros (vote_bytes c) (vote_length c) n none refl

pub replies_zeros : (c n : ℕ) → flat (reply_bytes c) (replicate n none) ≡ zero_bytes (reply_length c * n)
unfolding reply_bytes
replies_zeros c n = flat_zeros (reply_bytes c) (reply_length c) n none refl
