-- The leading run of those that pass, by its length, which a rising search for the first that does not pass finds. Assumes nothing.
use Prim.Native.Nat.{ℕ, zero, suc, ◌+◌, ◌≤◌, ◌<◌, min}
use mathlib.Core.Path.{◌≡◌, refl, sym, ap, ◌∙◌}
use mathlib.Core.Bool.{Bool, not}
use mathlib.Core.List.{List, [], ◌∷◌}
use native.Mathlib.Omega.{arith}
use native.Mathlib.Decide.{dec_le}
use lib.ListN.{length, take}
use lib.Seq.{length-take-le, take_all, take-nil, take-take, get_or-take}
use lib.Dec.{leb}
use borrow.Author.Tests.{le-leb, lt-leb, not-true, not-false}
use Rattle.rules.specs.Choice.{leading}
use Rattle.rules.specs.Entry.{no_entry, entry_of}
use Rattle.rules.specs.Early.{due_of}
use Rattle.rules.specs.declared.Entry.{Entry}
use Rattle.rules.proofs.Choice.{by_test, pick_true, pick_false}
use Rattle.repeats.specs.Repeat.{first_to}
use Rattle.repeats.proofs.Laws.{First, first_to_lem, first_stop, first_pass, first_end}
use Rattle.early.specs.Due.{run_length}

module _ (p : Entry → Bool) where
  leading_within : (ds : List Entry) → length (leading p ds) ≤ length ds
  unfolding leading
  leading_within [] = omega arith
  leading_within (d ∷ ds) = let h = leading_within ds in by_test (λ (l : List Entry). length l ≤ suc (length ds)) (p d) (λ t. omega arith) (λ t. omega arith)

  run_to : (ds : List Entry) (m r : ℕ) → m ≤ length ds → First (λ i. not (p (entry_of ds i))) m r → take m (leading p ds) ≡ take r ds
  unfolding leading
  run_to [] m r l f = take-nil m ∙ sym (take-nil r)
  run_to (d ∷ ds) zero zero l f = refl
  run_to (d ∷ ds) zero (suc r) l f = absurd (omega (arith, f.low))
  run_to (d ∷ ds) (suc m) zero l f = ap (take (suc m)) (pick_false (p d) (d ∷ leading p ds) [] (not-true (p d) (f.at (omega arith))))
  run_to (d ∷ ds) (suc m) (suc r) l f =
      ap (take (suc m)) (pick_true (p d) (d ∷ leading p ds) [] (not-false (p d) (f.before 0 (omega arith))))
      ∙ ap (λ (l : List Entry). d ∷ l)
      (run_to ds m r (omega arith) (record { low = omega (arith, f.low); before = λ j k. f.before (suc j) (omega arith); at = λ k. f.at (omega arith) }))

  -- as many of the run as there is room for, by a search no further than that
  pub take_leading : (ds : List Entry) (m : ℕ) → take m (leading p ds) ≡ take (first_to (λ i. not (p (entry_of ds i))) (min m (length ds))) ds
  take_leading ds m = go (dec_le m (length ds))
    where
      go : Dec (m ≤ length ds) → take m (leading p ds) ≡ take (first_to (λ i. not (p (entry_of ds i))) (min m (length ds))) ds
      go (yes l) =
          let e : min m (length ds) ≡ m = omega arith in
          rw e (run_to ds m (first_to (λ i. not (p (entry_of ds i))) m) l (first_to_lem (λ i. not (p (entry_of ds i))) m))
      go (no l) =
          let e : min m (length ds) ≡ length ds = omega arith in
          let w : length (leading p ds) ≤ length ds = leading_within ds in
          rw e
          (take_all m (leading p ds) (omega arith) ∙ sym (take_all (length ds) (leading p ds) w)
          ∙ run_to ds (length ds) (run_length p ds) (omega arith) (first_to_lem (λ i. not (p (entry_of ds i))) (length ds)))

  -- the whole run
  pub leading_take : (ds : List Entry) → leading p ds ≡ take (run_length p ds) ds
  leading_take ds =
      sym (take_all (length ds) (leading p ds) (leading_within ds)) ∙ run_to ds (length ds) (run_length p ds) (omega arith) (first_to_lem (λ i. not (p (entry_of ds i))) (length ds))

  pub leading_length : (ds : List Entry) → length (leading p ds) ≡ run_length p ds
  leading_length ds = ap length (leading_take ds) ∙ length-take-le (run_length p ds) ds (first_to_lem (λ i. not (p (entry_of ds i))) (length ds)).low

-- ---- those due by a time

module _ (time : ℕ) (es : List Entry) where
  -- due by the time
  abbrev pub is_due : Entry → Bool
  is_due e = leb e.stamp time

  -- are the first of early
  pub due_take : (k : ℕ) → k ≤ length (due_of time es) → take k (due_of time es) ≡ take k es
  due_take k l =
      ap (take k) (leading_take is_due es) ∙ take-take k (run_length is_due es) es (omega (arith, leading_length is_due es))

  pub due_at : (i : ℕ) → i < length (due_of time es) → entry_of (due_of time es) i ≡ entry_of es i
  due_at i l = ap (λ (ds : List Entry). entry_of ds i) (leading_take is_due es) ∙ get_or-take (run_length is_due es) es i no_entry (omega (arith, leading_length is_due es))

  pub due_within : length (due_of time es) ≤ length es
  due_within = leading_within is_due es

  -- none of the first k is later
  abbrev pub Passed : ℕ → Type 0
  Passed k = first_to (λ i. not (is_due (entry_of es i))) k ≡ k

  module _ (k n : ℕ) (g : Passed k) (hn : n ≡ length es) where
    -- one is, or none
    pub due_stops : (e : Entry) → e ≡ entry_of es k → k < n → time < e.stamp → k ≡ length (due_of time es)
    due_stops e q l h =
        first_stop (λ i. not (is_due (entry_of es i))) k (length es) g (ap not (lt-leb (entry_of es k).stamp time (rw q at h))) (omega arith) ∙ sym (leading_length is_due es)

    pub due_goes : (e : Entry) → e ≡ entry_of es k → e.stamp ≤ time → Passed (k + 1)
    due_goes e q h = first_pass (λ i. not (is_due (entry_of es i))) k g (ap not (le-leb (entry_of es k).stamp time (rw q at h)))

    pub due_ends : k ≤ n → n ≤ k → n ≡ length (due_of time es)
    due_ends l m = hn ∙ first_end (λ i. not (is_due (entry_of es i))) k (length es) g (omega arith) (omega arith) ∙ sym (leading_length is_due es)
