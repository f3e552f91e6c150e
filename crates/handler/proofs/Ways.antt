-- The ways through the handler of a kind, by what its rule says: refused, kept, sent, no room; and what its message says. Assumes nothing.
use Prim.Native.Nat.{ℕ, ◌≤◌, ◌<◌}
use mathlib.Core.Path.{◌≡◌, sym, ap, ◌∙◌}
use mathlib.Core.Bool.{true, false}
use mathlib.Core.List.{List, [], ◌∷◌}
use lib.ListN.{length, get_or}
use Rattle.octets.specs.Bytes.{splice, flat}
use Rattle.rules.specs.Wire.{Wire, wire_bytes, tag_of, header_in, numbers_of}
use Rattle.rules.specs.Wire as wires
use Rattle.rules.specs.Kind.{known, from_outside}
use Rattle.rules.specs.Read.{wire_in}
use Rattle.rules.specs.State.{State}
use Rattle.rules.specs.Image.{image, state_of}
use Rattle.rules.specs.Step.{Outcome, refused, done}
use Rattle.rules.specs.Bytes.{Left, leaves, closes}
use Rattle.rules.specs.declared.Header.{Header}
use Rattle.rules.specs.declared.Shape.{Shape}
use Rattle.rules.specs.declared.Message.{Message}
use Rattle.handler.specs.Handler.{Ready, handled}
use Rattle.handler.proofs.Told.{Told, told_number, told_sender, ready_told}
use Rattle.handler.proofs.Closes.{quiet, closes_refused, closes_sent, closes_tight, closes_quiet, closes_one, closes_short, handled_own}

module _ (k : ℕ) (on : Shape → State → Wire → Outcome) (sh : Shape) (b msg out : List ℕ) (m : Message) (own : tag_of m ≡ k) where
  -- what the rule says
  abbrev does : Outcome
  does = on sh (state_of sh b) (wire_in sh.s msg)

  pub by_rule : (o : Outcome) → does ≡ o → closes sh b out o ≡ handled k on sh m b msg out
  by_rule o q = sym (handled_own k on sh m b msg out own ∙ ap (closes sh b out) q)

  pub refuses : (n : ℕ) → does ≡ refused n → leaves n b out ≡ handled k on sh m b msg out
  refuses n q = sym (closes_refused sh b out n) ∙ by_rule (refused n) q

  -- the state changes, and nothing is sent
  pub keeps : (next : State) (b' : List ℕ) → does ≡ done next [] → b' ≡ image sh next → quiet b' out ≡ handled k on sh m b msg out
  keeps next b' q w = ap (λ (x : List ℕ). quiet x out) w ∙ sym (closes_quiet sh b out next) ∙ by_rule (done next []) q

  module _ (next : State) (ws : List Wire) (q : does ≡ done next ws) where
    pub no_room : length out < length (flat wire_bytes ws) → leaves 9 b out ≡ handled k on sh m b msg out
    no_room h = sym (closes_tight sh b out next ws h) ∙ by_rule (done next ws) q

    -- the state changes, and messages are sent
    pub sends : (b' out' : List ℕ) (sent : ℕ) → length (flat wire_bytes ws) ≤ length out → b' ≡ image sh next → sent ≡ length (flat wire_bytes ws) → out' ≡ splice out 0 (flat wire_bytes ws) → ◌≡◌ {A = Left} (record { refused = false; number = 0; offset = 0; sent = sent; state = b'; out = out' }) (handled k on sh m b msg out)
    sends b' out' sent h w v o = rw (w, v, o) (sym (closes_sent sh b out next ws h) ∙ by_rule (done next ws) q)

  -- the same of one message
  module _ (next : State) (w : Wire) (q : does ≡ done next (w ∷ [])) where
    pub no_room_for : length out < length (wire_bytes w) → leaves 9 b out ≡ handled k on sh m b msg out
    no_room_for h = sym (closes_short sh b out next w h) ∙ by_rule (done next (w ∷ [])) q

    pub sends_one : (b' out' : List ℕ) (sent : ℕ) → length (wire_bytes w) ≤ length out → b' ≡ image sh next → sent ≡ length (wire_bytes w) → out' ≡ splice out 0 (wire_bytes w) → ◌≡◌ {A = Left} (record { refused = false; number = 0; offset = 0; sent = sent; state = b'; out = out' }) (handled k on sh m b msg out)
    sends_one b' out' sent h i v o = rw (i, v, o) (sym (closes_one sh b out next w h) ∙ by_rule (done next (w ∷ [])) q)

-- ---- what the message says

module _ {sh : Shape} {b msg : List ℕ} {m : Message} (r : Ready sh b m msg) (k : ℕ) (own : tag_of m ≡ k) (n : known k ≡ true) where
  pub said : Told sh.n sh.s m msg
  said = ready_told sh b msg m r (ap known own ∙ n)

  pub said_view : (wire_in sh.s msg).view ≡ (header_in m).view
  said_view = ap (λ (h : Header). h.view) said.header

  pub said_group : (wire_in sh.s msg).from_group ≡ (header_in m).from_group
  said_group = ap (λ (h : Header). h.from_group) said.header

  pub said_replica : (wire_in sh.s msg).from_replica ≡ (header_in m).from_replica
  said_replica = ap (λ (h : Header). h.from_replica) said.header

  pub said_number : (i : ℕ) → wires.number (wire_in sh.s msg) i ≡ get_or (numbers_of m) i 0
  said_number = told_number sh.n sh.s m msg said

  -- its sender is a site
  pub said_sender : from_outside k ≡ false → ((header_in m).from_group < sh.s) × ((header_in m).from_replica < sh.n)
  said_sender o = told_sender sh.n sh.s m msg said (ap from_outside own ∙ o)
