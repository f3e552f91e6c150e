-- The keys that the table of rows finds repeated are the transactions of entries in a row. Assumes nothing.
use Prim.Native.Nat.{ℕ, ◌+◌, ◌*◌, ◌≤◌, ◌<◌}
use mathlib.Core.Path.{◌≡◌, refl}
use mathlib.Core.List.{List}
use native.Mathlib.Omega.{arith}
use lib.ListN.{length}
use Rattle.octets.proofs.Laws.{Bytes}
use Rattle.rules.specs.Log.{seen_before}
use Rattle.repeats.specs.Repeat.{seen_key, repeat_place}
use Rattle.repeats.specs.Rows.{spot_of, key_of}
use Rattle.repeats.proofs.Places.{spot_first}
use Rattle.entries.proofs.Keys.{Keyed, keyed_at, seen_is}
use Rattle.repeats.proofs.Laws.{first_agree}
use Rattle.verdicts.specs.Rows.{row_in, repeat_of}
use Rattle.entries.specs.Rows.{entry_spots}

module _ (b : List ℕ) (at count : ℕ) (bs : Bytes b) (fits : at + 24 * count ≤ length b) where
  abbrev key : ℕ → ℕ
  key i = key_of b (entry_spots at count) i

  keyed : (i : ℕ) → i < count → Keyed (key i) (row_in b at i)
  unfolding key_of
  keyed i l =
      let q : spot_of (entry_spots at count) i ≡ at + 24 * i + 16 = omega (arith, spot_first (entry_spots at count) i l) in
      keyed_at b (at + 24 * i) (spot_of (entry_spots at count) i) (key i) bs (omega arith) q refl

  pub keys_repeat : (n : ℕ) → n ≡ count → repeat_place key n ≡ repeat_of (row_in b at) count
  unfolding repeat_place
  keys_repeat n e =
      rw e
      (first_agree (λ i. seen_key key (key i) i) (λ i. seen_before (row_in b at) (row_in b at i) i) count
      (λ i l. seen_is (row_in b at) key (key i) (row_in b at i) (keyed i l) i (λ j k. keyed j (omega arith))))
