-- Where a log stops being good: at the first repeat among the entries before the first that is unfit. Assumes nothing.
use Prim.Native.Nat.{ℕ, zero, suc, ◌+◌, ◌*◌, ◌^◌, ◌≤◌, ◌<◌}
use mathlib.Core.Path.{◌≡◌, refl, sym, ap, ◌∙◌}
use mathlib.Core.Bool.{Bool, true, false, ◌&&◌, ◌||◌, not, and-true, or-true}
use mathlib.Core.List.{List, [], ◌∷◌}
use native.Mathlib.Decide.{dec_lt}
use native.Mathlib.Numerals.{add-one}
use native.Mathlib.Omega.{arith}
use lib.ListN.{length, get_or}
use lib.Dec.{ltb}
use Rattle.octets.specs.Bytes.{num}
use Rattle.octets.proofs.Laws.{bytes_known}
use Rattle.rules.specs.Choice.{all_of}
use Rattle.rules.specs.Group.{holds, some_of}
use Rattle.rules.specs.Entry.{no_entry, entry_fits, stamp_fits, request_fits, coordinator_fits, before, last_before}
use Rattle.rules.specs.Log.{seen_before, stands, good_to}
use Rattle.rules.specs.declared.Entry.{Entry}
use Rattle.rules.proofs.Tests.{split, and_r}
use Rattle.rules.proofs.Verdicts.{last_ext, seen_ext}
use Rattle.repeats.specs.Repeat.{first_to, repeat_place}
use Rattle.repeats.specs.Rows.{count_of, key_of, spot_of, Inside}
use Rattle.repeats.specs.declared.Spots.{Spots}
use Rattle.repeats.proofs.Laws.{First, first_to_lem, first_is, first_agree, again, repeat_first}
use Rattle.repeats.proofs.Places.{spot_first}
use Rattle.logs.specs.Place.{row_at, fits, last_from, unfit_from, unfit_at}
use Rattle.entries.proofs.Keys.{Keyed, keyed_at, seen_is}
use Rattle.entries.specs.Rows.{entry_spots}

-- ---- the tests of one entry

pub fits_by : (s : ℕ) (e : Entry) (v : Bool) → v ≡ some_of e.mask s → (stamp_fits e.stamp && (request_fits e.request && (coordinator_fits e.coordinator && v))) ≡ entry_fits s e
unfolding entry_fits all_of
fits_by s e v q =
    ap (λ (x : Bool). stamp_fits e.stamp && (request_fits e.request && (coordinator_fits e.coordinator && x))) (q ∙ sym (and-true (some_of e.mask s)))

pub all_by : (s k j : ℕ) (last e : Entry) (u t v w : Bool) → u ≡ entry_fits s e → t ≡ before last e → v ≡ holds e.mask k → w ≡ holds e.mask j → (u && (t && (v && w))) ≡ fits s k j last e
unfolding fits
all_by s k j last e u t v w p o q r = rw (p, o, q, r)

-- ---- a turn of the pass over the entries

module _ (s k j : ℕ) (d : Entry) (f : ℕ → Entry) where
  -- what was found of the entry read after the last, said of entry i
  pub unfit_row : (i : ℕ) (last e : Entry) (r t : Bool) → e ≡ f i → last ≡ last_from d f i → r ≡ fits s k j last e → not r ≡ t → unfit_from s k j d f i ≡ t
  unfit_row i last e r t q l u v = cc

pub from_start : (d : Entry) (f : ℕ → Entry) → d ≡ last_from d f 0
unfolding last_from
from_start d f = refl

pub from_next : (d : Entry) (f : ℕ → Entry) (i : ℕ) (e : Entry) → e ≡ f i → e ≡ last_from d f (i + 1)
unfolding last_from
from_next d f i e h = rw (add-one i) h

-- after nothing
from_none : (f : ℕ → Entry) (i : ℕ) → last_from no_entry f i ≡ last_before f i
unfolding last_from last_before
from_none f zero = refl
from_none f (suc i) = refl

pub first_none : (s k j : ℕ) (f : ℕ → Entry) (n r : ℕ) (d : Entry) → d ≡ no_entry → r ≡ first_to (unfit_from s k j d f) n → r ≡ first_to (unfit_at s k j f) n
first_none s k j f n r d z e =
    e
    ∙ ap (λ (x : Entry). first_to (unfit_from s k j x f) n) z
    ∙ first_agree (unfit_from s k j no_entry f) (unfit_at s k j f) n (λ i l. ap (λ (x : Entry). not (fits s k j x (f i))) (from_none f i))

-- ---- a good log, entry by entry

pub not_not : (b : Bool) → not (not b) ≡ b
not_not true = refl
not_not false = refl

module _ (s k : ℕ) where
  -- entry i is out of range, or does not stand
  abbrev pub wrong_at : (ℕ → Entry) → ℕ → Bool
  wrong_at f i = not (entry_fits s (f i) && stands s k f i)

  pub good_first : (f : ℕ → Entry) (n : ℕ) → good_to s k f n ≡ first_to (wrong_at f) n
  unfolding good_to first_to
  good_first f zero = refl
  good_first f (suc n) = rw (good_first f n, not_not (entry_fits s (f n) && stands s k f n))

  -- a mask in range names no group past S
  mask_in : (e : Entry) → entry_fits s e ≡ true → ltb e.mask (2 ^ s) ≡ true
  unfolding entry_fits
  mask_in e h = and_r (ltb 0 e.mask) (ltb e.mask (2 ^ s)) (split _ h 3)

  wrong_by : (fit follows seen held low : Bool) → (fit ≡ true → low ≡ true) → not (fit && all_of (follows ∷ not seen ∷ held ∷ low ∷ [])) ≡ (not (fit && (follows && (held && held))) || seen)
  unfolding all_of
  wrong_by false m y g l h = refl
  wrong_by true false y g l h = refl
  wrong_by true true true true l h = refl
  wrong_by true true true false l h = refl
  wrong_by true true false false l h = refl
  wrong_by true true false true l h = rw (h refl)

  pub wrong_is : (f : ℕ → Entry) (i : ℕ) → wrong_at f i ≡ (unfit_at s k k f i || seen_before f (f i) i)
  unfolding stands fits
  wrong_is f i = wrong_by (entry_fits s (f i)) (before (last_before f i) (f i)) (seen_before f (f i) i) (holds (f i).mask k) (ltb (f i).mask (2 ^ s)) (mask_in (f i))

  -- it asks for the first n entries alone
  pub good_like : (f g : ℕ → Entry) (n : ℕ) → ((i : ℕ) → i < n → f i ≡ g i) → good_to s k f n ≡ good_to s k g n
  good_like f g n h = good_first f n ∙ first_agree (wrong_at f) (wrong_at g) n like ∙ sym (good_first g n)
    where
      like : (i : ℕ) → i < n → wrong_at f i ≡ wrong_at g i
      like i l =
          let e : f i ≡ g i = h i l in
          let p : last_before f i ≡ last_before g i = last_ext f g i (λ j m. h j (omega arith)) in
          let q : seen_before f (g i) i ≡ seen_before g (g i) i = seen_ext f g (g i) i (λ j m. h j (omega arith)) in
          let r : unfit_at s k k f i ≡ unfit_at s k k g i = cc in
          let v : seen_before f (f i) i ≡ seen_before g (g i) i = cc in
          wrong_is f i ∙ ap (λ (x : Bool). x || seen_before f (f i) i) r ∙ ap (λ (x : Bool). unfit_at s k k g i || x) v ∙ sym (wrong_is g i)

  -- the first repeat among the entries before the first that is unfit
  pub good_is : (f : ℕ → Entry) (key : ℕ → ℕ) (n u : ℕ) → u ≡ first_to (unfit_at s k k f) n → ((i : ℕ) → i < u → Keyed (key i) (f i)) → repeat_place key u ≡ good_to s k f n
  good_is f key n u e h =
      sym (good_first f n ∙ first_is (wrong_at f) n r (record { low = omega (arith, v.low, w.low); before = clear; at = λ l. stops l (dec_lt r u) }))
    where
      r : ℕ
      r = repeat_place key u

      w : First (unfit_at s k k f) n u
      w = rw e (first_to_lem (unfit_at s k k f) n)

      v : First (again key) u r
      v = repeat_first key u

      seen : (i : ℕ) → i < u → seen_before f (f i) i ≡ again key i
      seen i l = sym (seen_is f key (key i) (f i) (h i l) i (λ j m. h j (omega arith)))

      clear : (i : ℕ) → i < r → wrong_at f i ≡ false
      clear i l =
          let m : i < u = omega (arith, v.low) in
          wrong_is f i ∙ rw (w.before i m, seen i m) (v.before i l)

      stops : r < n → Dec (r < u) → wrong_at f r ≡ true
      stops l (yes m) = wrong_is f r ∙ rw (seen r m, v.at m) (or-true (unfit_at s k k f r))
      stops l (no m) =
          let z : r ≡ u = omega (arith, v.low) in
          wrong_is f r ∙ rw (z) (rw (w.at (omega arith)))

-- ---- entries in a row of bytes

module _ (b : List ℕ) (at n u : ℕ) (known : (i : ℕ) → get_or b i 0 < 256) (h : at + 24 * n ≤ length b) (w : u ≤ n) where
  pub run_key : (i : ℕ) → i < u → Keyed (key_of b (entry_spots at u) i) (row_at b at i)
  unfolding key_of
  run_key i l =
      let p : at + 16 + 24 * i ≡ spot_of (entry_spots at u) i = spot_first (entry_spots at u) i l in
      keyed_at b (at + 24 * i) (spot_of (entry_spots at u) i) (num b (spot_of (entry_spots at u) i) 6) (bytes_known b known) (omega arith) (omega arith) refl

-- the keys of the first u of n entries lie inside
pub run_inside : (b : List ℕ) (at n u : ℕ) (sp : Spots) → length b < 18446744073709551616 → at + 24 * n ≤ length b → u ≤ n → sp ≡ entry_spots at u → Inside b sp
run_inside b at n u sp m h w e = rw e (record { one = omega arith; two = omega arith; three = omega arith; few = omega arith })

-- no more are fit than there are
pub fit_low : (s k j : ℕ) (f : ℕ → Entry) (n u : ℕ) → u ≡ first_to (unfit_at s k j f) n → u ≤ n
fit_low s k j f n u e = rw e (first_to_lem (unfit_at s k j f) n).low

-- the first repeat among the fit ones
pub good_run : (s k : ℕ) (b : List ℕ) (at n u r : ℕ) (sp : Spots) → ((i : ℕ) → get_or b i 0 < 256) → at + 24 * n ≤ length b → u ≡ first_to (unfit_at s k k (row_at b at)) n → sp ≡ entry_spots at u → r ≡ repeat_place (key_of b sp) (count_of sp) → r ≡ good_to s k (row_at b at) n
good_run s k b at n u r sp known h e p q =
    let m : count_of (entry_spots at u) ≡ u = omega arith in
    q
    ∙ ap (λ (x : Spots). repeat_place (key_of b x) (count_of x)) p
    ∙ ap (repeat_place (key_of b (entry_spots at u))) m
    ∙ good_is s k (row_at b at) (key_of b (entry_spots at u)) n u e (run_key b at n u known h (fit_low s k k (row_at b at) n u e))
