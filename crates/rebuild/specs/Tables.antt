-- The slots of the votes' logs: in which of them a log's rows are found by transaction.
use Rattle.std.specs.Prelude.{ℕ, ◌+◌, ◌*◌, ◌≤◌, ◌<◌, ◌≡◌, List, length, get_or}
use Rattle.std.specs.Prelude.{Some, None}
use Rattle.std.proofs.Math.Option.{Option, none}
use Rattle.octets.specs.Bytes.{part, items}
use Rattle.rules.specs.Read.{entry_at}
use Rattle.rules.specs.State.{Vote}
use Rattle.entries.specs.Rows.{Found}
use Rattle.ballots.specs.Ballots.{votes_in, vote_of, Given}
use Rattle.rebuild.specs.declared.Index.{Index}
use Rattle.rebuild.specs.declared.Votes.{Votes}
use Rattle.rebuild.specs.declared.Count.{Count}

-- the votes of the state and of the message
abbrev pub votes_of : Votes → List (Option Vote)
votes_of v = votes_in v.shape v.state.now v.message.now v.cast

-- and they are given
abbrev pub Brought : Votes → Type 0
Brought v = Given v.shape v.state.now v.message.now v.cast

-- the slots of this place
abbrev pub slots_of : Index → List ℕ → ℕ → List ℕ
slots_of x slots p = part slots (x.size * p) x.size

-- each replica that has slots finds the rows of its vote's log by them; so many have them, of those below `to`
pub record Indexed (vs : List (Option Vote)) (to : ℕ) (x : Index) (slots : List ℕ) : Type 0 where
  pub flags : length x.place ≡ 7
  pub small : x.size ≤ 8258
  pub room : x.size * x.used ≤ length slots
  pub few : x.used ≤ to
  pub within : (r p : ℕ) → get_or x.place r None ≡ Some p → p < x.used
  pub found : (r p : ℕ) → get_or x.place r None ≡ Some p → Found (vote_of (get_or vs r none)).log (slots_of x slots p)

-- votes are given, and the slots are those of them that count
pub record Counted (v : Votes) (k : Count) (slots : List ℕ) : Type 0 where
  pub given : Brought v
  pub indexed : Indexed (votes_of v) v.shape.n k.index slots

-- a log of `number` entries stands in bytes, and its rows are found by the slots of replica r, where it has any
pub record Looks (log : List ℕ) (number : ℕ) (x : Index) (slots : List ℕ) (r : ℕ) : Type 0 where
  pub long : 4 + 24 * number ≤ length log
  pub few : number ≤ 4096
  pub replica : r < 7
  pub small : x.size ≤ 8258
  pub seven : length x.place ≡ 7
  pub room : (p : ℕ) → get_or x.place r None ≡ Some p → (p < 7) × (x.size * p + x.size ≤ length slots)
  pub found : (p : ℕ) → get_or x.place r None ≡ Some p → Found (items (entry_at log) 24 4 number) (slots_of x slots p)
