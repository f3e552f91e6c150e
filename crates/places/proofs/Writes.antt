-- What is written in pieces at a place, as one write. Assumes nothing.
use Prim.Native.Nat.{ℕ, ◌+◌, ◌≤◌}
use mathlib.Core.Path.{◌≡◌, refl, sym, ap, ◌∙◌}
use mathlib.Core.Option.{some}
use mathlib.Core.List.{List, ◌++◌}
use native.Mathlib.Omega.{arith}
use lib.ListN.{length, take, drop}
use Rattle.octets.specs.Bytes.{le, part, splice}
use Rattle.octets.proofs.Laws.{length_le, length_part, splice_next, splice_home}
use Rattle.rules.specs.Image.{table_length, point_bytes, table_bytes}
use Rattle.rules.specs.declared.Entry.{Entry}
use Rattle.entries.specs.Table.{Holds}
use Rattle.places.proofs.Spots.{moved}

pub point_written : (b b1 b2 : List ℕ) (a x p : ℕ) → a + 9 ≤ length b → a ≡ x → b1 ≡ splice b a (le 1 1) → b2 ≡ splice b1 (a + 1) (le 8 p) → b2 ≡ splice b x (point_bytes (some p))
unfolding point_bytes
point_written b b1 b2 a x p h e w1 w2 =
    moved b b2 (le 1 1 ++ le 8 p) (le 1 1 ++ le 8 p) a x (splice_next b a 1 (le 1 1) (le 8 p) b1 b2 (omega arith) (length_le 1 1) w1 w2) e refl

-- ---- a part lent

pub lent_long : (b : List ℕ) (a m n : ℕ) → m ≡ n → a + n ≤ length b → length (take m (drop a b)) ≡ n
unfolding part
lent_long b a m n e h = rw e (length_part b a n h)

pub views_written : (b b1 src : List ℕ) (a x at m n : ℕ) → b1 ≡ splice b a (take m (drop at src)) → a ≡ x → m ≡ n → b1 ≡ splice b x (part src at n)
unfolding part
views_written b b1 src a x at m n w e f = rw (w, e, f)

pub table_home : (b x : List ℕ) (a m c : ℕ) (es : List Entry) → Holds c es x → m ≡ table_length c → take a b ++ (x ++ drop m (drop a b)) ≡ splice b a (table_bytes c es)
table_home b x a m c es h e = splice_home b a m x (h.size ∙ sym e) ∙ ap (splice b a) h.bytes
