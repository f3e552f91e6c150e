-- A run, computed, in which late differs as a list between the step before early was kept in order and the step now: why Unordered sees late as a set. Assumes nothing.
use Prim.Native.Nat.{ℕ}
use mathlib.Core.Path.{◌≡◌, refl}
use mathlib.Core.List.{List, [], ◌∷◌, map}
use Rattle.rules.specs.Choice.{pick, below, same, any, keep}
use Rattle.rules.specs.Entry.{before, place, last_before}
use Rattle.rules.specs.Kind.{row_of}
use Rattle.rules.specs.Wire.{Wire}
use Rattle.rules.specs.State.{State, fresh}
use Rattle.rules.specs.Step.{Outcome, sends, view_right, status_right, role_right, follower_takes, on_transaction, on_replica_sync, handle, step}
use Rattle.rules.specs.declared.Entry.{Entry}
use Rattle.rules.specs.declared.Shape.{Shape}
use Rattle.rules.proofs.Unordered.{step_before, goes}

-- three replicas of one group
abbrev sizes : Shape
sizes = record { n = 3; s = 1; c = 16 }

abbrev entry : ℕ → ℕ → Entry
entry stamp coordinator = record { stamp = stamp; command = 7; request = 1; coordinator = coordinator; mask = 1 }

-- replica 1, a follower, is given a transaction of this coordinator that is due at 9
abbrev due_at_nine : ℕ → Wire
due_at_nine coordinator = record { kind = 1; to_group = 0; to_mask = 2; from_group = 255; from_replica = 255; view = 0; g_vec = []; numbers = 4 ∷ 5 ∷ []; entries = entry 0 coordinator ∷ [] }

-- and its leader's log, which ends at 10
abbrev ends_at_ten : Wire
ends_at_ten = record { kind = 4; to_group = 0; to_mask = 6; from_group = 0; from_replica = 0; view = 0; g_vec = 0 ∷ []; numbers = []; entries = entry 10 3 ∷ [] }

-- the coordinators in late after these
abbrev late_by : (State → Wire → Outcome) → List ℕ
late_by f = map (λ e. e.coordinator) (goes f (fresh sizes 0 1) (due_at_nine 5 ∷ due_at_nine 2 ∷ ends_at_ten ∷ [])).waiting.late

pub late_before : late_by (step_before sizes) ≡ 5 ∷ 2 ∷ []
unfolding goes pick below same any keep before last_before row_of sends view_right status_right role_right on_replica_sync
late_before = refl

pub late_now : late_by (step sizes) ≡ 2 ∷ 5 ∷ []
unfolding goes pick below same any keep before place last_before row_of sends view_right status_right role_right follower_takes on_transaction on_replica_sync handle step
late_now = refl
