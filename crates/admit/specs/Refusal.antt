-- Which of the refusals 2 to 6 a message meets at a state.
use Rattle.std.specs.Prelude.{ℕ, ◌<◌, ◌≡◌, ◌||◌, false, List, Result, Ok, Err, eqb}
use Rattle.octets.specs.Bytes.{num}
use Rattle.rules.specs.Choice.{pick}
use Rattle.rules.specs.Wire.{Wire, header_of, offset_in}
use Rattle.rules.specs.Kind.{to_outside, from_outside}
use Rattle.rules.specs.Read.{wire_in}
use Rattle.rules.specs.State.{State}
use Rattle.rules.specs.Image.{state_of}
use Rattle.rules.specs.Step.{here, view_right, status_right, role_right}
use Rattle.rules.specs.declared.Header.{Header}
use Rattle.rules.specs.declared.Message.{Message}
use Rattle.rules.specs.declared.Shape.{Shape}
use Rattle.places.specs.Layout.{Stands}
use Rattle.admit.specs.declared.Arrival.{Arrival}
use Rattle.rules.specs.declared.refusals.Refusal.{Refusal}
use Rattle.rules.specs.declared.refusals.Refusal.TheVariants.{Malformed, NotAddressedHere, WrongView, WrongStatus, WrongRole}

-- the lowest of 2 to 6 that applies to a message of kind k (0: no message), 0 where none does
unfoldable pub refusal_of : Shape → State → ℕ → Wire → ℕ
refusal_of sh st k w =
    pick (eqb k 0 || to_outside k) 2
    (pick (here st w)
    (pick (view_right k st w)
    (pick (status_right k st w)
    (pick (role_right k sh st w) 0 6) 5) 4) 3)

-- what such a message is answered with, where bytes that are no message are wrong at this offset
unfoldable pub admission : Shape → State → ℕ → Wire → ℕ → Result Unit Refusal
admission sh st k w at =
    pick (eqb k 0 || to_outside k) (Err (Malformed at))
    (pick (here st w)
    (pick (view_right k st w)
    (pick (status_right k st w)
    (pick (role_right k sh st w) (Ok tt) (Err WrongRole)) (Err WrongStatus)) (Err WrongView)) (Err NotAddressedHere))

-- the offset that goes with 2: 0 for bytes that say that their kind is 5 or 6
abbrev pub wrong_at : Message → List ℕ → ℕ
wrong_at m msg = pick (to_outside (num msg 0 1)) 0 (offset_in m)

-- the message in the bytes has this kind and this header; a sender within the groups is one of their sites
pub record Heads (sh : Shape) (k : ℕ) (h : Header) (msg : List ℕ) : Type 0 where
  pub kind : (wire_in sh.s msg).kind ≡ k
  pub header : header_of (wire_in sh.s msg) ≡ h
  pub sender : from_outside k ≡ false → (h.from_group < sh.s) × (h.from_replica < sh.n)

-- the state in the bytes that a message comes to, and what its bytes say
abbrev pub standing : Arrival → State
standing a = state_of a.shape a.state.now

abbrev pub told : Arrival → Wire
told a = wire_in a.shape.s a.message.now

-- the state is good, and the message has this kind and this header
pub record Comes (a : Arrival) : Type 0 where
  pub stands : Stands a.shape (standing a) a.state.now
  pub heads : Heads a.shape a.kind a.header a.message.now
