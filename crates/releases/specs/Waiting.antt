-- The run of early entries that are agreed, as they and their notes stand in bytes.
use Rattle.std.specs.Prelude.{ℕ, List, length, take}
use Rattle.rules.specs.Choice.{leading}
use Rattle.rules.specs.State.{agreed}
use Rattle.rules.specs.Image.{table_at}
use Rattle.notes.specs.Notes.{sized, notes_at}

-- how many of the first n come before the first that is not agreed
abbrev pub run_in : ℕ → ℕ → List ℕ → List ℕ → ℕ → ℕ
run_in c s es ns n = length (leading (agreed (sized c s) (notes_at c s ns)) (take n (table_at c es 0)))
