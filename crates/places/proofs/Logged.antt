-- The log in bytes of the right length: how many entries it has, where each stands, and the last of them. Assumes nothing.
use Prim.Native.Nat.{ℕ, suc, ◌+◌, ◌-◌, ◌*◌, ◌≤◌, ◌<◌, min}
use mathlib.Core.Path.{◌≡◌, sym, ap, ◌∙◌}
use mathlib.Core.List.{List}
use native.Mathlib.Omega.{arith}
use lib.ListN.{length}
use Rattle.octets.specs.Bytes.{num}
use Rattle.octets.proofs.Codecs.{length_items, get_or_items}
use Rattle.rules.specs.Entry.{no_entry, entry_of, last_before}
use Rattle.rules.specs.Log.{last_of}
use Rattle.rules.specs.Read.{entry_at}
use Rattle.rules.specs.Image.{state_length, table_at, state_of, at_log}
use Rattle.rules.specs.declared.Entry.{Entry}
use Rattle.rules.specs.declared.Shape.{Shape}
use Rattle.places.specs.Layout.{longest, start_of, Fits, Sized}
use Rattle.places.proofs.Sections.{state_small}
use Rattle.places.proofs.Fields.{fields}

-- place i of the log lies within the state
pub log_within : (sh : Shape) (i at : ℕ) → Fits sh → at ≡ start_of sh at_log → i < sh.c → (at + (4 + 24 * i) ≡ start_of sh at_log + (4 + 24 * i)) × (at + (4 + 24 * i) + 24 ≤ state_length sh) × (at + (4 + 24 * i) ≤ longest)
log_within sh i at f e h = (omega arith, omega arith, omega (arith, state_small sh f))

module _ (sh : Shape) (b : List ℕ) (z : Sized sh b) where
  abbrev log : List Entry
  log = (state_of sh b).logged.log

  pub log_long : length log ≡ min (num b (start_of sh at_log) 4) sh.c
  unfolding table_at
  log_long = ap length (fields sh b z.size).log ∙ length_items (entry_at b) 24 (start_of sh at_log + 4) (min (num b (start_of sh at_log) 4) sh.c)

  pub log_room : length log ≤ sh.c
  log_room = omega (arith, log_long)

  pub log_at : (i : ℕ) → i < length log → entry_at b (start_of sh at_log + (4 + 24 * i)) ≡ entry_of log i
  unfolding table_at
  log_at i l =
      let n : ℕ = min (num b (start_of sh at_log) 4) sh.c in
      let e : start_of sh at_log + (4 + 24 * i) ≡ start_of sh at_log + 4 + 24 * i = omega arith in
      ap (entry_at b) e
      ∙ sym (ap (λ (es : List Entry). entry_of es i) (fields sh b z.size).log ∙ get_or_items (entry_at b) 24 (start_of sh at_log + 4) n i no_entry (omega (arith, log_long)))

  -- ---- how many: a count above the room is read as the room
  module _ (at count : ℕ) (a : at ≡ start_of sh at_log) (e : count ≡ num b at 4) where
    counted : count ≡ num b (start_of sh at_log) 4
    counted = e ∙ ap (λ (x : ℕ). num b x 4) a

    pub the_log : (n : ℕ) → n ≡ min count sh.c → (n ≡ length log) × (n ≤ sh.c) × (n ≤ 4096)
    the_log n h = (omega (arith, counted, log_long), omega arith, omega (arith, z.fits.small))

  -- ---- the last
  module _ (n : ℕ) (q : n ≡ length log) where
    pub last_none : n ≡ 0 → (e : Entry) → e ≡ no_entry → e ≡ last_of log
    unfolding last_before
    last_none z e p =
        let h : 0 ≡ length log = omega arith in
        p ∙ ap (last_before (entry_of log)) h

    pub last_is : (n ≡ 0 → ⊥) → (e : Entry) → e ≡ entry_of log (n - 1) → e ≡ last_of log
    unfolding last_before
    last_is f e p =
        let h : suc (n - 1) ≡ length log = omega arith in
        p ∙ ap (last_before (entry_of log)) h
