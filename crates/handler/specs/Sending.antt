-- The bytes of what a site sends, from the state's bytes.
use Rattle.std.specs.Prelude.{ℕ, ◌+◌, ◌*◌, ◌/◌, ◌%◌, ◌≤◌, ◌≡◌, ◌&&◌, not, List, length, eqb}
use Rattle.octets.specs.Bytes.{num, part}
use Rattle.rules.specs.Choice.{pick, keep, below}
use Rattle.rules.specs.Group.{holds, only}
use Rattle.rules.specs.Wire.{wire_bytes}
use Rattle.rules.specs.Read.{length_for}
use Rattle.rules.specs.Write.{wire_from}
use Rattle.rules.specs.declared.Header.{Header}
use Rattle.rules.specs.declared.Shape.{Shape}
use Rattle.rules.specs.declared.Message.{Message}
use Rattle.rules.specs.declared.Message.TheVariants.{Note, VerifyRequest}
use Rattle.places.specs.Layout.{start_of}
use Rattle.rules.specs.Image.{at_gvec}

-- a case with the state's gVec beside it and these entries, as bytes
unfoldable pub message_bytes : Shape → List ℕ → Message → List ℕ → List ℕ
message_bytes sh b m entries = wire_bytes (wire_from m (part b (start_of sh at_gvec) (4 * sh.s)) entries)

-- the header of what the site sends
abbrev pub headed_in : List ℕ → ℕ → ℕ → ℕ → Header
headed_in b kind to_group to_mask =
    record { kind = kind; to_group = to_group; to_mask = to_mask; from_group = num b 0 1; from_replica = num b 1 1; view = num b 8 4 }

-- the leader of group j
abbrev pub leader_in : Shape → List ℕ → ℕ → ℕ
leader_in sh b j = num b (start_of sh at_gvec + 4 * j) 4 % sh.n

-- the other groups in a mask, rising
abbrev pub others_in : Shape → List ℕ → ℕ → List ℕ
others_in sh b mask = keep (λ j. not (eqb j (num b 0 1)) && holds mask j) (below sh.s)

-- what is sent to other groups' leaders: a timestamp note, or a verify request with its boundary
abbrev pub asked_of : ℕ → ℕ → Header → Message
asked_of kind number h = pick (eqb kind 3) (Note h) (VerifyRequest h number)

-- the entries go with the kind: what is sent has the length of its kind
pub record Asks (kind : ℕ) (entries : List ℕ) : Type 0 where
  pub whole : 24 * (length entries / 24) ≡ length entries
  pub few : length entries ≤ 24
  pub long : (s : ℕ) → length_for s kind (length entries / 24) ≡ 24 + 4 * s + 8 * pick (eqb kind 3) 0 1 + length entries

-- to the leader of group j
unfoldable pub leader_bytes : Shape → List ℕ → ℕ → ℕ → List ℕ → ℕ → List ℕ
leader_bytes sh b kind number entries j = message_bytes sh b (asked_of kind number (headed_in b kind j (only (leader_in sh b j)))) entries
