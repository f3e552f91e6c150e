-- The length of a leading run, as those due by a time are one.
use Rattle.std.specs.Prelude.{ℕ, Bool, not, List, length}
use Rattle.rules.specs.Entry.{entry_of}
use Rattle.rules.specs.declared.Entry.{Entry}
use Rattle.repeats.specs.Repeat.{first_to}

-- how many pass before the first that does not
abbrev pub run_length : (Entry → Bool) → List Entry → ℕ
run_length p ds = first_to (λ i. not (p (entry_of ds i))) (length ds)
