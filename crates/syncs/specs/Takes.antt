-- The rule of kind 4 in parts: what a log that is taken over makes of the state, and what is told of it.
use Rattle.std.specs.Prelude.{ℕ, ◌+◌, ◌-◌, ◌*◌, ◌≤◌, ◌<◌, List, ◌++◌, length}
use Rattle.rules.specs.Choice.{below}
use Rattle.rules.specs.Entry.{without}
use Rattle.rules.specs.Wire.{Wire}
use Rattle.rules.specs.State.{State}
use Rattle.rules.specs.Image.{state_of}
use Rattle.rules.specs.Step.{Outcome, done, within, sends, synced, slow_reply}
use Rattle.rules.specs.Early.{stays_early, falls_late}
use Rattle.rules.specs.declared.Entry.{Entry}
use Rattle.rules.specs.declared.Shape.{Shape}
use Rattle.places.specs.Layout.{Stands}
use Rattle.early.specs.declared.Listed.{Listed}

-- what is left of late, and what falls to it from early
unfoldable pub late_by : State → List Entry → List Entry
late_by st log = without log st.waiting.late ++ falls_late log st.waiting.early

-- the state with the log taken over
unfoldable pub synced_by : State → List Entry → State
synced_by st log = synced st log (stays_early log st.waiting.early) (late_by st log)

-- kind 6 for each position past the old sync point
unfoldable pub slow_replies : State → List Entry → List Wire
slow_replies st log = sends (λ i. slow_reply st log (st.logged.sync + i)) (below (length log - st.logged.sync))

-- a log that is longer than the sync point and fits is taken over
unfoldable pub takes : Shape → State → List Entry → Outcome
takes sh st log = within sh.c (length (late_by st log)) (done (synced_by st log) (slow_replies st log))

-- the bytes are those of a good state, and the message has such a log
pub record Coming (sh : Shape) (b msg : List ℕ) (log : Listed) : Type 0 where
  pub stands : Stands sh (state_of sh b) b
  pub inside : log.at + 24 * log.count ≤ length msg
  pub past : (state_of sh b).logged.sync < log.count
  pub room : log.count ≤ sh.c
