-- Rows one after the other, and tests by places: what the code makes of them. Assumes nothing.
use Prim.Native.Nat.{ℕ, suc, ◌+◌, ◌*◌, ◌<◌}
use mathlib.Core.Path.{◌≡◌, refl, sym, ap, ◌∙◌}
use mathlib.Core.Bool.{Bool, true, false, ◌&&◌, ◌||◌, not}
use mathlib.Core.Bool.{and-true, and-false}
use mathlib.Core.List.{[], ◌∷◌}
use native.Mathlib.Omega.{arith}
use lib.Dec.{eqb, leb}
use native.Mathlib.Numerals.{add-one}
use borrow.Author.Tests.{lt-leb, not-true, not-false}
use Rattle.rules.specs.Choice.{pick, all_of}
use Rattle.rules.specs.Entry.{latest, stamp_fits}
use Rattle.rules.specs.Kind.{views_in, numbers_in}
use Rattle.rules.specs.Read.{Fields, ◌to◌is◌, body_rows, number_rows, numbers_at, entries_at, number_fits, entries_fit, first_wrong, and_then}
use Rattle.std.specs.Prelude.{Ok, Err}
use Rattle.std.specs.Result.{result_and}
use Rattle.rules.specs.Read.{Verdict}
use Rattle.rules.specs.declared.WrongField.{WrongField}
use Rattle.fields.proofs.Expected.{then_lem}
use Rattle.rules.specs.Read.{all_right, wrong_field}
use Rattle.rules.proofs.Verdicts.{wrong_stays, rows_after, not_fine}
use Rattle.fields.specs.Parts.{numbers_wrong}

pub either_is : (t a b : Bool) → ((t && a) || (not t && b)) ≡ pick t a b
unfolding pick
either_is true true b = refl
either_is true false b = refl
either_is false a b = refl

pub all_three : (a b c : Bool) → all_of (a ∷ b ∷ c ∷ []) ≡ (a && (b && c))
unfolding all_of
all_three a b c = ap (λ (t : Bool). a && (b && t)) (and-true c)

pub all_five : (a b c d e : Bool) → all_of (a ∷ b ∷ c ∷ d ∷ e ∷ []) ≡ (a && (b && (c && (d && e))))
unfolding all_of
all_five a b c d e = ap (λ (t : Bool). a && (b && (c && (d && t)))) (and-true e)

-- past the latest timestamp there is none
pub too_late : (t : ℕ) → latest < t → stamp_fits t ≡ false
too_late t h = rw (lt-leb t latest h) (and-false (leb 1 t))

-- ---- rows one after the other

module _ (s : ℕ) (m : Fields) where
  abbrev verdict : ℕ → Verdict
  verdict i = first_wrong (number_rows s m i)

  abbrev from : ℕ
  from = numbers_at s m.kind + 4

  -- one more number
  one_more : (i : ℕ) → verdict (suc i) ≡ and_then (verdict i) (pick (number_fits m i) all_right (wrong_field (from + 8 * i) (from + 8 * i + 8)))
  unfolding number_rows first_wrong
  one_more i = rows_after (number_rows s m i) ((from + 8 * i to from + 8 * i + 8 is number_fits m i) ∷ [])

  pub none_wrong : verdict 0 ≡ all_right
  unfolding number_rows first_wrong
  none_wrong = refl

  pub next_fine : (i : ℕ) (t : Bool) → verdict i ≡ all_right → t ≡ number_fits m i → not t ≡ false → verdict (i + 1) ≡ all_right
  unfolding and_then pick
  next_fine i t e q h = rw add-one (one_more i ∙ rw (e, sym q ∙ not-false t h))

  pub next_wrong : (i n a : ℕ) (t : Bool) → verdict i ≡ all_right → t ≡ number_fits m i → not t ≡ true → i < n → a ≡ from → wrong_field (a + 8 * i) (a + 8 * i + 8) ≡ verdict n
  unfolding and_then pick
  next_wrong i n a t e q h l f =
      let w : verdict (suc i) ≡ wrong_field (from + 8 * i) (from + 8 * i + 8) = one_more i ∙ rw (e, sym q ∙ not-true t h) in
      rw f (sym (wrong_stays verdict (λ j. pick (number_fits m j) all_right (wrong_field (from + 8 * j) (from + 8 * j + 8))) one_more (suc i) n (from + 8 * i) (from + 8 * i + 8) w (omega arith)))

  -- a number that is expected to fit, and does
  pub fits_here : (i a : ℕ) (t : Bool) (v : Verdict) (o : Unit {0}) → verdict i ≡ all_right → t ≡ number_fits m i → v ≡ pick t all_right (wrong_field (a + 8 * i) (a + 8 * i + 8)) → v ≡ Ok o → verdict (i + 1) ≡ all_right
  unfolding pick
  fits_here i a true v o e q p f = next_fine i true e q refl
  fits_here i a false v o e q p f = absurd (not_fine _ _ (sym p ∙ f))

  -- and does not
  pub wrong_here : (i n a : ℕ) (t : Bool) (v : Verdict) (w : WrongField) → verdict i ≡ all_right → t ≡ number_fits m i → v ≡ pick t all_right (wrong_field (a + 8 * i) (a + 8 * i + 8)) → v ≡ Err w → i < n → a ≡ from → v ≡ verdict n
  unfolding pick
  wrong_here i n a true v w e q p f l g = absurd (not_fine w.at w.end (sym f ∙ p))
  wrong_here i n a false v w e q p f l g = p ∙ next_wrong i n a false e q refl l g

  pub all_fine : (i n : ℕ) → verdict i ≡ all_right → i ≡ n → all_right ≡ verdict n
  all_fine i n e q = rw q at (sym e)

  abbrev at_count : Verdict
  at_count = pick (entries_fit m) all_right (wrong_field (entries_at s m.kind) (entries_at s m.kind + 4))

  pub body_rows_lem : first_wrong (body_rows s m) ≡ pick (eqb m.views (views_in s m.kind)) (pick (eqb m.numbers (numbers_in m.kind)) (result_and (numbers_wrong s m) at_count) (wrong_field (numbers_at s m.kind) (numbers_at s m.kind + 4))) (wrong_field 12 16)
  unfolding first_wrong
  body_rows_lem = ap (λ (v : Verdict). pick (eqb m.views (views_in s m.kind)) (pick (eqb m.numbers (numbers_in m.kind)) v (wrong_field (numbers_at s m.kind) (numbers_at s m.kind + 4))) (wrong_field 12 16)) (rows_after (number_rows s m (numbers_in m.kind)) _ ∙ sym (then_lem (numbers_wrong s m) at_count))
