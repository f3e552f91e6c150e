-- How far a log is looked at: up to the first entry that repeats an earlier transaction. Assumes nothing.
use Prim.Native.Nat.{ℕ, ◌≤◌, ◌<◌, min}
use mathlib.Core.Path.{◌≡◌, refl, sym}
use mathlib.Core.Bool.{Bool, true, false, ◌&&◌, and-false}
use native.Mathlib.Omega.{arith}
use lib.Dec.{ltb}
use borrow.Author.Tests.{lt-ltb, le-ltb, ltb-true, ltb-false}
use Rattle.rules.specs.Choice.{pick}
use Rattle.rules.specs.Log.{seen_before}
use Rattle.rules.specs.declared.Entry.{Entry}
use Rattle.rules.proofs.Tests.{pick_true, pick_false}
use Rattle.repeats.specs.Repeat.{first_to}
use Rattle.repeats.proofs.Laws.{First, first_to_lem}
use Rattle.verdicts.specs.Rows.{repeat_of, limit_of}

-- ---- how far a log is looked at

module _ (log : Bool) (f : ℕ → Entry) (whole seen : ℕ) where
  pub limit_off : log ≡ false → seen ≡ limit_of log f whole seen
  unfolding limit_of pick
  limit_off e = rw e

  module _ (count : ℕ) (is : count ≡ min whole seen) where
    pub limit_past : (place : ℕ) → place ≡ repeat_of f count → count ≤ place → seen ≡ limit_of log f whole seen
    unfolding limit_of
    limit_past place q l =
        rw (← is, ← q) (sym (pick_false _ place seen (rw (le-ltb place count l) (and-false log))))

    pub limit_none : count ≡ 0 → seen ≡ limit_of log f whole seen
    unfolding first_to
    limit_none e = limit_past 0 (rw e) (omega arith)

    pub limit_here : (place : ℕ) → place ≡ repeat_of f count → place < count → log ≡ true → place ≡ limit_of log f whole seen
    unfolding limit_of
    limit_here place q l e =
        rw (← is, ← q) (sym (pick_true _ place seen (rw (lt-ltb place count l, e))))

-- what the limit is
pub record Limit (log : Bool) (f : ℕ → Entry) (whole seen r : ℕ) : Type 0 where
  pub within : r ≤ seen
  pub fresh : (i : ℕ) → i < r → log ≡ true → i < whole → seen_before f (f i) i ≡ false
  pub logged : r < seen → log ≡ true
  pub inside : r < seen → r < whole
  pub again : r < seen → seen_before f (f r) r ≡ true

min_l : (a b : ℕ) → min a b ≤ a
min_l a b = omega arith

min_r : (a b : ℕ) → min a b ≤ b
min_r a b = omega arith

min_lt : (a b i : ℕ) → i < a → i < b → i < min a b
min_lt a b i h l = omega arith

pub limit_is : (log : Bool) (f : ℕ → Entry) (whole seen : ℕ) → Limit log f whole seen (limit_of log f whole seen)
unfolding limit_of
limit_is log f whole seen = go log (ltb r w) refl refl
  where
    w : ℕ
    w = min whole seen

    r : ℕ
    r = repeat_of f w

    found : First (λ i. seen_before f (f i) i) w r
    found = first_to_lem (λ i. seen_before f (f i) i) w

    go : (t u : Bool) → log ≡ t → ltb r w ≡ u → Limit log f whole seen (pick (log && ltb r w) r seen)
    go true true e h =
        let l : r < w = ltb-true r w h in
        rw (pick_true (log && ltb r w) r seen (rw (e, h)))
        (record {
          within = omega (arith, min_r whole seen);
          fresh = λ i k x y. found.before i k;
          logged = λ k. e;
          inside = λ k. omega (arith, min_l whole seen);
          again = λ k. found.at l;
        })
    go true false e h =
        let l : w ≤ r = ltb-false r w h in
        rw (pick_false (log && ltb r w) r seen (rw (e, h)))
        (record {
          within = omega arith;
          fresh = λ i k x y. found.before i (omega (arith, min_lt whole seen i y k));
          logged = λ k. absurd (omega arith);
          inside = λ k. absurd (omega arith);
          again = λ k. absurd (omega arith);
        })
    go false u e h =
        rw (pick_false (log && ltb r w) r seen (rw e))
        (record {
          within = omega arith;
          fresh = λ i k x y. absurd (clash x e);
          logged = λ k. absurd (omega arith);
          inside = λ k. absurd (omega arith);
          again = λ k. absurd (omega arith);
        })
      where
        clash : log ≡ true → log ≡ false → ⊥
        clash x y = let z : ◌≡◌ {A = ℕ} 0 1 = cc in omega arith

pub limit_within : (log : Bool) (f : ℕ → Entry) (whole seen r : ℕ) → r ≡ limit_of log f whole seen → r ≤ seen
limit_within log f whole seen r e = rw e (limit_is log f whole seen).within
