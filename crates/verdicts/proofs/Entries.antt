-- The verdict on entries, one entry after the other. Assumes nothing.
use Prim.Native.Nat.{ℕ, zero, suc, ◌+◌, ◌*◌, ◌≤◌, ◌<◌}
use mathlib.Core.Path.{◌≡◌, refl, sym, ap, ◌∙◌}
use mathlib.Core.Bool.{Bool, true, false, ◌&&◌, ◌||◌, not, and-true, and-false}
use mathlib.Core.List.{List, []}
use native.Mathlib.Omega.{arith}
use native.Mathlib.Numerals.{add-one}
use lib.Dec.{ltb}
use borrow.Author.Tests.{lt-ltb, ltb-true}
use Rattle.rules.specs.Choice.{pick, when, all_of}
use Rattle.rules.specs.Entry.{before, last_before}
use Rattle.rules.specs.Log.{seen_before, stands}
use Rattle.rules.specs.Kind.{numbers_in, with_log}
use Rattle.rules.specs.Read.{Fields, head_rows, body_rows, number_rows, entry_rows, entries_at, first_wrong, and_then, entries_wrong, message_wrong}
use Rattle.rules.specs.declared.Entry.{Entry}
use Rattle.rules.specs.declared.Header.{Header}
use Rattle.rules.specs.Read.{Verdict}
use Rattle.rules.specs.Read.{all_right, wrong_field}
use Rattle.rules.proofs.Tests.{and_l, and_r}
use Rattle.rules.proofs.Verdicts.{wrong_stays}
use Rattle.fields.specs.declared.Parts.{Parts}
use Rattle.fields.specs.Parts.{fields_from, fields_of, headed, rows_of}
use Rattle.verdicts.specs.Rows.{row_in, limit_of, stands_after, wrong_in}
use Rattle.verdicts.specs.declared.Look.{Look}
use Rattle.verdicts.proofs.Fresh.{Limit, limit_is}

module _ (s k : ℕ) (f : ℕ → Entry) (i : ℕ) where
  stands_fresh : (last : Entry) → last ≡ last_before f i → seen_before f (f i) i ≡ false → stands s k f i ≡ stands_after s k last (f i)
  unfolding stands all_of
  stands_fresh last e h = rw (e, h, and-true (ltb (f i).mask _))

  stands_again : seen_before f (f i) i ≡ true → stands s k f i ≡ false
  unfolding stands all_of
  stands_again h = rw (h, and-false (before (last_before f i) (f i)))

module _ (s : ℕ) (h : Header) (f : ℕ → Entry) (whole : ℕ) where
  abbrev m : Fields
  m = fields_from (headed h) [] f

  abbrev verdict : ℕ → Verdict
  verdict i = entries_wrong s m whole i

  -- ---- one more entry
  pub next_fine : (i : ℕ) (v : Verdict) → verdict i ≡ all_right → v ≡ first_wrong (entry_rows s m whole i) → v ≡ all_right → verdict (i + 1) ≡ all_right
  unfolding entries_wrong and_then
  next_fine i v e q w = rw (add-one, e, ← q) w

  pub next_wrong : (i seen a u : ℕ) (v : Verdict) → verdict i ≡ all_right → v ≡ first_wrong (entry_rows s m whole i) → v ≡ wrong_field a u → i < seen → wrong_field a u ≡ verdict seen
  unfolding entries_wrong and_then
  next_wrong i seen a u v e q x l =
      let w : verdict (suc i) ≡ wrong_field a u = rw (e, ← q) x in
      sym (wrong_stays verdict (λ j. first_wrong (entry_rows s m whole j)) (λ j. refl) (suc i) seen a u w (omega arith))

  -- ---- an entry as the reader looks at it
  module _ (log : Bool) (from seen limit : ℕ) (is_log : log ≡ with_log h.kind) (isFrom : from ≡ entries_at s h.kind) (isLimit : limit ≡ limit_of log f whole seen) where
    abbrev is : Limit log f whole seen limit
    is = rw isLimit (limit_is log f whole seen)

    module _ (i : ℕ) (last e : Entry) (st : Bool) (l : i < limit) (is_last : last ≡ last_before f i) (isEntry : e ≡ f i) (isStanding : st ≡ stands_after s h.to_group last e) where
      standing_is : when (with_log h.kind && ltb i whole) (stands s h.to_group f i) ≡ (not (log && ltb i whole) || st)
      standing_is = rw (← is_log) (go (log && ltb i whole) refl)
        where
          go : (t : Bool) → (log && ltb i whole) ≡ t → when t (stands s h.to_group f i) ≡ (not t || st)
          go true x =
              let fresh : seen_before f (f i) i ≡ false = is.fresh i l (and_l log (ltb i whole) x) (ltb-true i whole (and_r log (ltb i whole) x)) in
              stands_fresh s h.to_group f i last is_last fresh ∙ sym (rw isEntry at isStanding)
          go false x = refl

      pub entry_is : (v : Verdict) → v ≡ first_wrong (rows_of s h (from + 4 + 24 * i) (not (log && ltb i whole) || st) e) → v ≡ first_wrong (entry_rows s m whole i)
      entry_is v q = rw standing_is (rw (isFrom, isEntry) at q)

    -- the first that repeats an earlier one does not stand
    pub repeat_wrong : (i : ℕ) → verdict i ≡ all_right → i ≤ limit → limit ≤ i → limit < seen → wrong_field (from + 4 + 24 * limit) (from + 4 + 24 * limit) ≡ verdict seen
    unfolding first_wrong pick
    repeat_wrong i e x y l =
        let q : i ≡ limit = omega arith in
        let log_is : with_log h.kind ≡ true = sym is_log ∙ is.logged l in
        let in_whole : ltb limit whole ≡ true = lt-ltb limit whole (is.inside l) in
        let falls : stands s h.to_group f limit ≡ false = stands_again s h.to_group f limit (is.again l) in
        next_wrong limit seen (from + 4 + 24 * limit) (from + 4 + 24 * limit) (wrong_field (from + 4 + 24 * limit) (from + 4 + 24 * limit)) (rw q at e) (rw (log_is, in_whole, falls, ← isFrom)) refl l

    pub all_fine : (i : ℕ) → verdict i ≡ all_right → i ≤ limit → limit ≤ i → seen ≤ limit → all_right ≡ verdict seen
    all_fine i e a b c = let q : i ≡ seen = omega (arith, is.within) in rw q at (sym e)

-- only the header counts
pub entries_head : (s : ℕ) (p : Parts) (xs : List ℕ) (f : ℕ → Entry) (whole n : ℕ) → entries_wrong s (fields_from p xs f) whole n ≡ entries_wrong s (fields_from (headed p.header) [] f) whole n
unfolding entries_wrong
entries_head s p xs f whole zero = refl
entries_head s p xs f whole (suc n) = ap (λ (v : Verdict). and_then v (first_wrong (entry_rows s (fields_from p xs f) whole n))) (entries_head s p xs f whole n)

-- no entry counts
module _ (s : ℕ) (p : Parts) (xs : List ℕ) (f : ℕ → Entry) where
  numbers_alone : (i : ℕ) → number_rows s (fields_from p xs f) i ≡ number_rows s (fields_of p xs) i
  unfolding number_rows
  numbers_alone zero = refl
  numbers_alone (suc i) = rw (numbers_alone i)

  body_alone : first_wrong (body_rows s (fields_from p xs f)) ≡ first_wrong (body_rows s (fields_of p xs))
  body_alone = rw (numbers_alone (numbers_in p.header.kind))

-- ---- the three runs of fields
module _ (n s : ℕ) (p : Parts) (xs b : List ℕ) (look : Look) (head : Verdict) (isHead : head ≡ first_wrong (head_rows n s (fields_of p []))) where
  pub head_wrong : (a u : ℕ) → head ≡ wrong_field a u → wrong_field a u ≡ wrong_in n s p xs b look
  unfolding message_wrong and_then
  head_wrong a u e = rw (sym isHead ∙ e)

  module _ (fine : head ≡ all_right) (body : Verdict) (isBody : body ≡ first_wrong (body_rows s (fields_of p xs))) where
    is_body : first_wrong (body_rows s (fields_from p xs (row_in b look.at))) ≡ first_wrong (body_rows s (fields_of p xs))
    is_body = body_alone s p xs (row_in b look.at)

    pub body_wrong : (a u : ℕ) → body ≡ wrong_field a u → wrong_field a u ≡ wrong_in n s p xs b look
    unfolding message_wrong and_then
    body_wrong a u e = rw (sym isHead ∙ fine, is_body ∙ sym isBody ∙ e)

    pub rest_wrong : (v : Verdict) → body ≡ all_right → v ≡ entries_wrong s (fields_from (headed p.header) [] (row_in b look.at)) look.whole look.seen → v ≡ wrong_in n s p xs b look
    unfolding message_wrong and_then
    rest_wrong v e q = rw (sym isHead ∙ fine, is_body ∙ sym isBody ∙ e) (q ∙ sym (entries_head s p xs (row_in b look.at) look.whole look.seen))
