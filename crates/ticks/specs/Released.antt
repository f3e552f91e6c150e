-- What the releases of a tick leave.
use Rattle.std.specs.Prelude.{ℕ, ◌*◌, ◌≡◌, List, length, take}
use Rattle.octets.specs.Bytes.{flat, splice}
use Rattle.rules.specs.State.{State, at_time, with_logged}
use Rattle.rules.specs.Image.{state_of}
use Rattle.rules.specs.Wire.{wire_bytes}
use Rattle.rules.specs.Read.{length_for}
use Rattle.rules.specs.Early.{due_of}
use Rattle.rules.specs.Step.{released, placed_replies}
use Rattle.rules.specs.declared.Shape.{Shape}
use Rattle.releases.specs.Releasing.{Reaches}

-- at a time, with a sync point
abbrev pub settled_at : State → ℕ → ℕ → State
settled_at st time sync = with_logged st.logged.log sync st.logged.commit (at_time time st)

-- from the state in b, once the first k entries due by a time are released: the state, and the replies, which end at r
pub record Released (sh : Shape) (b out : List ℕ) (time k r : ℕ) (b' out' : List ℕ) : Type 0 where
  pub reached : Reaches sh (released (state_of sh b) (state_of sh b).clock (state_of sh b).logged.sync (take k (due_of time (state_of sh b).waiting.early))) b'
  pub end : r ≡ length_for sh.s 5 1 * k
  pub replies : out' ≡ splice out 0 (flat wire_bytes (placed_replies (state_of sh b) (take k (due_of time (state_of sh b).waiting.early))))
  pub long : length out' ≡ length out
