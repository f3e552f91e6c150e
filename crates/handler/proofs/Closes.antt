-- What is left of the bytes by an outcome, and by a handler. Assumes nothing.
use Prim.Native.Nat.{ℕ, ◌≤◌, ◌<◌}
use mathlib.Core.Path.{◌≡◌, refl, ◌∙◌}
use mathlib.Core.Bool.{false}
use mathlib.Core.List.{List, [], ◌∷◌, append-nil}
use native.Mathlib.Omega.{arith}
use lib.ListN.{length}
use lib.Dec.{eqb}
use borrow.Author.Tests.{eq-eqb, le-leb, lt-leb}
use Rattle.octets.specs.Bytes.{splice, flat}
use Rattle.octets.proofs.Laws.{splice_none}
use Rattle.rules.specs.Choice.{pick}
use Rattle.rules.specs.Wire.{Wire, wire_bytes, tag_of}
use Rattle.rules.specs.Read.{wire_in}
use Rattle.rules.specs.State.{State}
use Rattle.rules.specs.Image.{image, state_of}
use Rattle.rules.specs.Step.{Outcome, refused, done}
use Rattle.rules.specs.Bytes.{Left, leaves, closes}
use Rattle.rules.specs.declared.Shape.{Shape}
use Rattle.rules.specs.declared.Message.{Message}
use Rattle.handler.specs.Handler.{handled}

-- state and outgoing buffer after a step that sends nothing
abbrev pub quiet : List ℕ → List ℕ → Left
quiet b out = record { refused = false; number = 0; offset = 0; sent = 0; state = b; out = out }

module _ (sh : Shape) (b out : List ℕ) where
  pub closes_refused : (number : ℕ) → closes sh b out (refused number) ≡ leaves number b out
  unfolding closes
  closes_refused number = refl

  module _ (st : State) (ws : List Wire) where
    -- messages are sent
    pub closes_sent : length (flat wire_bytes ws) ≤ length out → closes sh b out (done st ws) ≡ record { refused = false; number = 0; offset = 0; sent = length (flat wire_bytes ws); state = image sh st; out = splice out 0 (flat wire_bytes ws) }
    unfolding closes pick
    closes_sent h = rw (le-leb (length (flat wire_bytes ws)) (length out) h)

    -- or there is no room for them
    pub closes_tight : length out < length (flat wire_bytes ws) → closes sh b out (done st ws) ≡ leaves 9 b out
    unfolding closes pick
    closes_tight h = rw (lt-leb (length (flat wire_bytes ws)) (length out) h)

  -- nothing is sent
  pub closes_quiet : (st : State) → closes sh b out (done st []) ≡ quiet (image sh st) out
  unfolding flat
  closes_quiet st = closes_sent st [] (omega arith) ∙ rw (splice_none out 0)

  module _ (st : State) (w : Wire) where
    abbrev one : flat wire_bytes (w ∷ []) ≡ wire_bytes w
    unfolding flat
    one = append-nil (wire_bytes w)

    -- one message is sent
    pub closes_one : length (wire_bytes w) ≤ length out → closes sh b out (done st (w ∷ [])) ≡ record { refused = false; number = 0; offset = 0; sent = length (wire_bytes w); state = image sh st; out = splice out 0 (wire_bytes w) }
    closes_one h = rw one at (closes_sent st (w ∷ []) (rw one h))

    -- or there is no room for it
    pub closes_short : length out < length (wire_bytes w) → closes sh b out (done st (w ∷ [])) ≡ leaves 9 b out
    closes_short h = closes_tight st (w ∷ []) (rw one h)

module _ (k : ℕ) (on : Shape → State → Wire → Outcome) (sh : Shape) (m : Message) (b msg out : List ℕ) where
  pub handled_own : tag_of m ≡ k → handled k on sh m b msg out ≡ closes sh b out (on sh (state_of sh b) (wire_in sh.s msg))
  unfolding handled pick
  handled_own e = rw (eq-eqb (tag_of m) k e)

  pub handled_other : eqb (tag_of m) k ≡ false → leaves 2 b out ≡ handled k on sh m b msg out
  unfolding handled pick
  handled_other e = rw e
