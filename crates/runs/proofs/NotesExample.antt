-- Runs of a leader, computed: what a due entry may do stands in its note, and where the note stands is not told by early. So a tick cannot do with a walk over early's beginning alone: it
-- finds the notes of those that are due. Assumes nothing.
use Prim.Native.Nat.{ℕ}
use mathlib.Core.Path.{◌≡◌, refl}
use mathlib.Core.List.{List, [], ◌∷◌, map, ◌++◌}
use Rattle.rules.specs.Choice.{pick, below, same, any, keep, leading}
use Rattle.rules.specs.Entry.{before, place, place_all, last_before}
use Rattle.rules.specs.Kind.{row_of}
use Rattle.rules.specs.Wire.{Wire}
use Rattle.rules.specs.State.{State, fresh, stamps_of, noted_to, greatest_to}
use Rattle.rules.specs.Log.{leader_stamp}
use Rattle.rules.specs.Early.{lifted, keep_note}
use Rattle.rules.specs.Step.{sends, view_right, status_right, role_right, leader_takes, leader_releases, on_transaction, on_note, on_tick, handle, step}
use Rattle.rules.specs.declared.Entry.{Entry}
use Rattle.rules.specs.declared.Shape.{Shape}
use Rattle.rules.proofs.Unordered.{goes}

-- two groups of three replicas
abbrev sizes : Shape
sizes = record { n = 3; s = 2; c = 16 }

abbrev entry : ℕ → ℕ → Entry
entry stamp coordinator = record { stamp = stamp; command = 7; request = 1; coordinator = coordinator; mask = 3 }

-- replica 0, which leads group 0, is given a transaction of this coordinator that is due at 9
abbrev due_at_nine : ℕ → Wire
due_at_nine coordinator = record { kind = 1; to_group = 0; to_mask = 1; from_group = 255; from_replica = 255; view = 0; g_vec = []; numbers = 4 ∷ 5 ∷ []; entries = entry 0 coordinator ∷ [] }

-- the other group's leader notes the same time for it
abbrev noted_at_nine : ℕ → Wire
noted_at_nine coordinator = record { kind = 3; to_group = 0; to_mask = 1; from_group = 1; from_replica = 0; view = 0; g_vec = 0 ∷ 0 ∷ []; numbers = []; entries = entry 9 coordinator ∷ [] }

-- a tick by which both are due
abbrev tick : Wire
tick = record { kind = 23; to_group = 0; to_mask = 1; from_group = 255; from_replica = 255; view = 0; g_vec = []; numbers = 20 ∷ []; entries = [] }

abbrev after : List Wire → State
after ws = goes (step sizes) (fresh sizes 0 0) ws

abbrev coordinators : List Entry → List ℕ
coordinators es = map (λ e. e.coordinator) es

-- both transactions, and the note of one of them
abbrev heard_of : ℕ → List Wire
heard_of coordinator = due_at_nine 2 ∷ due_at_nine 5 ∷ noted_at_nine coordinator ∷ []

-- early is the same whichever note was heard
pub same_early : (after (heard_of 2)).waiting.early ≡ (after (heard_of 5)).waiting.early
unfolding goes pick below same any keep before place place_all last_before row_of sends view_right status_right role_right leader_stamp leader_takes on_transaction on_note keep_note lifted stamps_of noted_to greatest_to handle step
same_early = refl

-- but the tick releases the first entry by the one
pub one_goes : coordinators (after (heard_of 2 ++ (tick ∷ []))).logged.log ≡ 2 ∷ []
unfolding goes pick below same any keep leading before place place_all last_before row_of sends view_right status_right role_right leader_stamp leader_takes leader_releases on_transaction on_note on_tick keep_note lifted stamps_of noted_to greatest_to handle step
one_goes = refl

-- and none by the other
pub none_goes : coordinators (after (heard_of 5 ++ (tick ∷ []))).logged.log ≡ []
unfolding goes pick below same any keep leading before place place_all last_before row_of sends view_right status_right role_right leader_stamp leader_takes leader_releases on_transaction on_note on_tick keep_note lifted stamps_of noted_to greatest_to handle step
none_goes = refl

-- and the notes stand in the order in which they came, whatever early's is
abbrev noting : List Wire → List ℕ
noting ws = map (λ x. x.coordinator) (after ws).waiting.notes

pub early_either_way : (after (due_at_nine 2 ∷ due_at_nine 5 ∷ [])).waiting.early ≡ (after (due_at_nine 5 ∷ due_at_nine 2 ∷ [])).waiting.early
unfolding goes pick below same any keep before place place_all last_before row_of sends view_right status_right role_right leader_stamp leader_takes on_transaction keep_note lifted stamps_of noted_to greatest_to handle step
early_either_way = refl

pub noted_as_they_came : noting (due_at_nine 2 ∷ due_at_nine 5 ∷ []) ≡ 2 ∷ 5 ∷ []
unfolding goes pick below same any keep before place place_all last_before row_of sends view_right status_right role_right leader_stamp leader_takes on_transaction keep_note lifted stamps_of noted_to greatest_to handle step
noted_as_they_came = refl

pub noted_the_other_way : noting (due_at_nine 5 ∷ due_at_nine 2 ∷ []) ≡ 5 ∷ 2 ∷ []
unfolding goes pick below same any keep before place place_all last_before row_of sends view_right status_right role_right leader_stamp leader_takes on_transaction keep_note lifted stamps_of noted_to greatest_to handle step
noted_the_other_way = refl
