-- What a leader that takes an entry sends, and the state that it leaves; and what is asked where a note is kept that may lift an early entry.
use Rattle.std.specs.Prelude.{ℕ, ◌<◌, ◌≡◌, true, List, [], ◌∷◌}
use Rattle.rules.specs.Group.{holds}
use Rattle.rules.specs.Log.{distinct}
use Rattle.rules.specs.Wire.{Wire}
use Rattle.rules.specs.State.{Note, State, with_waiting}
use Rattle.rules.specs.Step.{send_leader, sends, other_groups}
use Rattle.rules.specs.Early.{keep_note, put_early, lifted}
use Rattle.rules.specs.declared.Entry.{Entry}
use Rattle.rules.specs.declared.Shape.{Shape}
use Rattle.rules.proofs.Order.{Sorted}
use Rattle.notes.specs.Notes.{row}
use Rattle.stamps.specs.Climbs.{Climbs}

-- its timestamp, to each other masked group's leader
abbrev pub note_sends : Shape → State → Entry → List Wire
note_sends sh st e = sends (λ j. send_leader sh st 3 j [] (e ∷ [])) (other_groups sh st (holds e.mask))

-- the notes with the own group's
abbrev pub own_noted : Shape → State → Entry → List Note
own_noted sh st e = keep_note sh e st.site.group e.stamp st.waiting.notes

-- the entry put in early, with the own note
abbrev pub taken_early : Shape → State → Entry → State
taken_early sh st e = with_waiting (lifted sh (own_noted sh st e) e (put_early e st.waiting.early)) st.waiting.late (own_noted sh st e) st

-- group j's timestamp t of e's transaction can be kept: there is room for it, early is in order with no transaction twice, and with that note a lift goes up
pub record Lifting (sh : Shape) (e : Entry) (j t : ℕ) (early : List Entry) (notes : List Note) : Type 0 where
  pub once : distinct early ≡ true
  pub sorted : Sorted early
  pub climbs : Climbs sh (keep_note sh e j t notes) e early
  pub room : row e.request e.coordinator notes < sh.c
  pub group : j < sh.s
