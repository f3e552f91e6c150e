-- The start of a view with a merged draft.
use Rattle.std.specs.Prelude.{ℕ, List, length}
use Rattle.rules.specs.Image.{state_of}
use Rattle.rules.specs.Step.{Outcome, within}
use Rattle.rules.specs.declared.Entry.{Entry}
use Rattle.rules.specs.declared.Shape.{Shape}
use Rattle.changes.specs.Changes.{led_by}

-- by its leader, in the state's view, with this gVec; 8 where the draft is too long
abbrev pub starts_with : Shape → List ℕ → List ℕ → List Entry → Outcome
starts_with sh b g_vec draft = within sh.c (length draft) (led_by sh (state_of sh b) (state_of sh b).view.g_view g_vec draft)
