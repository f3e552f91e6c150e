-- The leading run of those due that are agreed, found by a rising search. Assumes nothing.
use Prim.Native.Nat.{ℕ, ◌+◌, ◌≤◌, ◌<◌}
use mathlib.Core.Path.{◌≡◌, sym, ap, ◌∙◌}
use mathlib.Core.Bool.{Bool, true, false, not}
use mathlib.Core.List.{List}
use native.Mathlib.Omega.{arith}
use lib.ListN.{length, take}
use lib.Seq.{get_or-take, length-take-le}
use Rattle.rules.specs.Choice.{leading}
use Rattle.rules.specs.Entry.{no_entry, entry_of}
use Rattle.rules.specs.declared.Entry.{Entry}
use Rattle.repeats.specs.Repeat.{first_to}
use Rattle.repeats.proofs.Laws.{first_pass, first_stop, first_end}
use Rattle.early.proofs.Leading.{leading_length}

module _ (p : Entry → Bool) (due : ℕ) (es : List Entry) where
  -- none of the first i of those due fails
  abbrev pub Passed : ℕ → Type 0
  Passed i = first_to (λ j. not (p (entry_of (take due es) j))) i ≡ i

  module _ (i : ℕ) (g : Passed i) (hd : due ≤ length es) where
    long : length (take due es) ≡ due
    long = length-take-le due es hd

    module _ (e : Entry) (t : Bool) (l : i < due) (he : e ≡ entry_of es i) (ht : t ≡ p e) where
      test_is : not t ≡ not (p (entry_of (take due es) i))
      test_is = ap not (ht ∙ ap p (he ∙ sym (get_or-take due es i no_entry l)))

      -- it fails, or it passes
      pub run_stops : not t ≡ true → i ≡ length (leading p (take due es))
      run_stops h = first_stop _ i (length (take due es)) g (sym test_is ∙ h) (omega (arith, long)) ∙ sym (leading_length p (take due es))

      pub run_goes : not t ≡ false → Passed (i + 1)
      run_goes h = first_pass _ i g (sym test_is ∙ h)

    -- all passed
    pub run_ends : i ≤ due → due ≤ i → due ≡ length (leading p (take due es))
    run_ends l m = sym long ∙ first_end _ i (length (take due es)) g (omega (arith, long)) (omega (arith, long)) ∙ sym (leading_length p (take due es))
