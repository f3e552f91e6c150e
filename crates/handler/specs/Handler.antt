-- What every handler is given, and what it leaves by the rules of its kind.
use Rattle.std.specs.Prelude.{ℕ, ◌≡◌, true, List, eqb}
use Rattle.rules.specs.Choice.{pick}
use Rattle.rules.specs.Wire.{Wire, tag_of}
use Rattle.rules.specs.Read.{wire_in, decoded}
use Rattle.rules.specs.State.{State}
use Rattle.rules.specs.Image.{state_of}
use Rattle.rules.specs.Step.{Outcome, here, view_right, status_right, role_right}
use Rattle.rules.specs.Bytes.{Left, leaves, closes}
use Rattle.rules.specs.declared.Shape.{Shape}
use Rattle.rules.specs.declared.Message.{Message}
use Rattle.places.specs.Layout.{Stands}

-- the bytes are those of a good state, the case is what the message's bytes decode to, and none of the refusals 3 to 6 applies
pub record Ready (sh : Shape) (b : List ℕ) (m : Message) (msg : List ℕ) : Type 0 where
  pub stands : Stands sh (state_of sh b) b
  pub told : m ≡ decoded sh.n sh.s msg
  pub here : here (state_of sh b) (wire_in sh.s msg) ≡ true
  pub view : view_right (tag_of m) (state_of sh b) (wire_in sh.s msg) ≡ true
  pub status : status_right (tag_of m) (state_of sh b) (wire_in sh.s msg) ≡ true
  pub role : role_right (tag_of m) sh (state_of sh b) (wire_in sh.s msg) ≡ true

-- what the handler of kind k leaves: what its rule says of the state and the message in the bytes; 2 for a case of another kind
unfoldable pub handled : ℕ → (Shape → State → Wire → Outcome) → Shape → Message → List ℕ → List ℕ → List ℕ → Left
handled k on sh m b msg out = pick (eqb (tag_of m) k) (closes sh b out (on sh (state_of sh b) (wire_in sh.s msg))) (leaves 2 b out)
