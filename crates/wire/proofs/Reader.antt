-- What the reader finds in bytes is what the definition finds there. Assumes nothing.
use Rattle.std.specs.Prelude.{Ok, Err}
use Prim.Native.Nat.{ℕ, suc, ◌+◌, ◌-◌, ◌*◌, ◌≤◌, ◌<◌, min}
use mathlib.Core.Path.{◌≡◌, refl, sym, ap₂, ◌∙◌}
use mathlib.Core.Bool.{Bool, true, false, not}
use mathlib.Core.List.{List, [], ◌∷◌, ◌++◌, append_assoc}
use native.Mathlib.Omega.{arith}
use native.Mathlib.Numerals.{add-one}
use lib.ListN.{length, take, set, get_or, replicate}
use lib.Seq.{set_at, take_at}
use lib.Dec.{eqb}
use borrow.Author.Tests.{not-false}
use Rattle.octets.specs.Bytes.{num, items}
use Rattle.octets.proofs.Codecs.{get_or_items, length_items}
use Rattle.rules.specs.Choice.{pick}
use Rattle.rules.specs.Group.{sizes_fit}
use Rattle.rules.specs.Wire.{Wire, case_with, case_of}
use Rattle.rules.specs.Kind.{numbers_in}
use Rattle.rules.specs.Read.{malformed, message, fields_at, numbers_at, entries_at, length_for, whole_in, wire_in, judged, verdict_in, read, case_read, decoded}
use Rattle.rules.specs.declared.Message.{Message}
use Rattle.rules.specs.declared.Message.TheVariants.{Malformed}
use Rattle.rules.specs.Read.{Verdict}
use Rattle.rules.proofs.Tests.{sizes}
use Rattle.rules.proofs.Verdicts.{verdict_ext}
use Rattle.rules.proofs.EachKind.{most_numbers}
use Rattle.writer.specs.Said.{padded}
use Rattle.wire.specs.Parts.{header_in, numbers_from, kind_numbers, parts_in, judged_as}
use Rattle.fields.specs.declared.Parts.{Parts}
use Rattle.verdicts.specs.declared.Look.{Look}
use Rattle.verdicts.specs.Rows.{row_in, wrong_in}

module _ (n s : ℕ) (r : Bool) (e : r ≡ sizes_fit n s) (h : not r ≡ false) where
  pub fits : sizes_fit n s ≡ true
  fits = sym e ∙ not-false r h

  pub groups : s ≤ 8
  groups = (sizes n s fits).groups

-- the whole entries lie in the bytes
pub in_bytes : (len from whole : ℕ) → whole ≡ whole_in len from → 24 * whole ≤ len - from
in_bytes len from whole e = omega arith

-- ---- the numbers, one after the other

abbrev pub filled : List ℕ → ℕ → ℕ → List ℕ
filled b at i = numbers_from b at i ++ replicate (most_numbers - i) 0

pub none_filled : (b : List ℕ) (at : ℕ) → replicate most_numbers 0 ≡ filled b at 0
unfolding items
none_filled b at = refl

pub next_filled : (b xs : List ℕ) (at i x : ℕ) → i < most_numbers → xs ≡ filled b at i → x ≡ num b (at + 8 * i) 8 → set xs i x ≡ filled b at (i + 1)
unfolding items
next_filled b xs at i x l e q =
    let f : ℕ → ℕ = λ a. num b a 8 in
    let r : most_numbers - i ≡ suc (most_numbers - suc i) = omega arith in
    rw (e, add-one, r, q)
    (set_at (items f 8 at i) 0 (replicate (most_numbers - suc i) 0) (num b (at + 8 * i) 8) i (length_items f 8 at i)
    ∙ sym (append_assoc (items f 8 at i) (num b (at + 8 * i) 8 ∷ []) (replicate (most_numbers - suc i) 0)))

pub all_filled : (b xs : List ℕ) (at i count : ℕ) → i ≡ count → xs ≡ filled b at i → xs ≡ padded (numbers_from b at count)
all_filled b xs at i count q e = rw (length_items (λ a. num b a 8) 8 at count, ← q) e

-- what is lent of them
pub lent : (b xs : List ℕ) (at count : ℕ) → xs ≡ padded (numbers_from b at count) → take count xs ≡ numbers_from b at count
lent b xs at count e = rw e (take_at (numbers_from b at count) _ count (length_items (λ a. num b a 8) 8 at count))

case_judged : (len end : ℕ) (w : Wire) (v : Verdict) → case_read (judged len end w v) ≡ judged_as len end (case_of w) v
unfolding judged judged_as pick
case_judged len end w (Ok o) = go (eqb len end)
  where
    go : (t : Bool) → case_read (pick t (message w) (malformed (min len end))) ≡ pick t (case_of w) (Malformed (min len end))
    go true = refl
    go false = refl
case_judged len end w (Err f) = refl

module _ (s : ℕ) (b : List ℕ) where
  abbrev k : ℕ
  k = num b 0 1

  number_is : (i : ℕ) → i < numbers_in k → num b (numbers_at s k + 4 + 8 * i) 8 ≡ get_or (kind_numbers s b) i 0
  number_is i h = sym (get_or_items (λ a. num b a 8) 8 (numbers_at s k + 4) (numbers_in k) i 0 h)

  abbrev whole : ℕ
  whole = whole_in (length b) (entries_at s k + 4)

  abbrev count : ℕ
  count = num b (entries_at s k) 4

  -- what is looked at of the entries
  abbrev look : Look
  look = record { at = entries_at s k + 4; whole = whole; seen = min count (whole + 1) }

  verdict_is : (n : ℕ) → verdict_in n s b ≡ wrong_in n s (parts_in s b) (kind_numbers s b) b look
  unfolding verdict_in fields_at
  verdict_is n = rw add-one (verdict_ext n s (fields_at s k b) (λ i. num b (numbers_at s k + 4 + 8 * i) 8) (λ i. get_or (kind_numbers s b) i 0) (row_in b (entries_at s k + 4)) (row_in b (entries_at s k + 4)) number_is whole (min count (suc whole)) (λ j l. refl))

  case_is : case_of (wire_in s b) ≡ case_with (header_in b) (kind_numbers s b)
  unfolding wire_in
  case_is = refl

  pub read_is : (n : ℕ) → sizes_fit n s ≡ true → decoded n s b ≡ judged_as (length b) (length_for s k count) (case_with (header_in b) (kind_numbers s b)) (wrong_in n s (parts_in s b) (kind_numbers s b) b look)
  unfolding decoded read pick fields_at
  read_is n e = rw e (case_judged (length b) (length_for s k count) (wire_in s b) (verdict_in n s b) ∙ ap₂ (λ (m : Message) (v : Verdict). judged_as (length b) (length_for s k count) m v) case_is (verdict_is n))

  -- the answer from what the reader's functions give
  module _ (n : ℕ) (fit : sizes_fit n s ≡ true) (p : Parts) (isParts : p ≡ parts_in s b) (q c : ℕ) (isQ : q ≡ numbers_at s p.header.kind) (isC : c ≡ numbers_in p.header.kind) (xs : List ℕ) (is_room : xs ≡ padded (numbers_from b (q + 4) c)) where
    lent_is : take (c - 0) xs ≡ kind_numbers s b
    lent_is = let z : c - 0 ≡ c = omega arith in rw z (lent b xs (q + 4) c is_room ∙ rw (isQ, isC, isParts) refl)

    pub read_as : (from whole seen end : ℕ) (v : Verdict) (m r : Message)
        → from ≡ entries_at s p.header.kind
        → whole ≡ whole_in (length b) (from + 4)
        → seen ≡ min p.entries (whole + 1)
        → v ≡ wrong_in n s p (take (c - 0) xs) b (record { at = from + 4; whole = whole; seen = seen })
        → end ≡ length_for s p.header.kind p.entries
        → m ≡ case_with p.header (take (c - 0) xs)
        → r ≡ judged_as (length b) end m v
        → r ≡ decoded n s b
    read_as from whole seen end v m r e₁ e₂ e₃ e₄ e₅ e₆ e₇ = rw (e₇, e₄, e₆, e₅, lent_is, e₃, e₂, e₁, isParts) (sym (read_is n fit))
