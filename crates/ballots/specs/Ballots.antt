-- The votes that a step of kind 8 counts: of the state and of the message.
use Rattle.std.specs.Prelude.{ℕ, ◌+◌, ◌*◌, ◌≤◌, ◌<◌, ◌≡◌, Bool, true, false, ◌&&◌, List, [], length, set, take, get_or, replicate, eqb, ltb}
use Rattle.std.specs.Prelude as rust
use Rattle.std.specs.Prelude.{Some, None, MatchOption}
use Rattle.std.proofs.Math.Option.{Option, none, some}
use Rattle.octets.specs.Bytes.{num, items}
use Rattle.rules.specs.Choice.{pick, is_some}
use Rattle.rules.specs.Log.{good_log}
use Rattle.rules.specs.Read.{entry_at}
use Rattle.rules.specs.State.{Vote, State}
use Rattle.rules.specs.Image.{state_of}
use Rattle.rules.specs.Step.{own_vote}
use Rattle.rules.specs.Rebuild.{with_normal, best}
use Rattle.rules.specs.declared.Entry.{Entry}
use Rattle.rules.specs.declared.Shape.{Shape}
use Rattle.places.specs.Layout.{Stands}
use Rattle.ballots.specs.declared.Cast.{Cast}
use Rattle.ballots.specs.declared.Ballot.{Ballot}
use Rattle.ballots.specs.declared.Best.{Best}

-- the votes kept, or only the own one where the step enters a greater view, and the sender's
unfoldable pub ballots : Shape → State → Bool → ℕ → Vote → List (Option Vote)
ballots sh st entering sender v = set (pick entering (set (replicate sh.n none) st.site.replica (some (own_vote st))) st.change.votes) sender (some v)

-- the log in a message: a count at `at`, entries behind it
abbrev pub sent_log : List ℕ → ℕ → List Entry
sent_log msg at = items (entry_at msg) 24 (at + 4) (num msg at 4)

-- the votes that count with this one
unfoldable pub votes_in : Shape → List ℕ → List ℕ → Cast → List (Option Vote)
votes_in sh b msg k = ballots sh (state_of sh b) k.entering k.sender (record { normal = k.normal; sync = k.sync; log = sent_log msg k.at })

-- a good state, and a sender in its group
pub record Sent (sh : Shape) (b : List ℕ) (k : Cast) : Type 0 where
  pub stands : Stands sh (state_of sh b) b
  pub sender : k.sender < sh.n

-- and a vote whose log is good and has room
pub record Given (sh : Shape) (b msg : List ℕ) (k : Cast) : Type 0 where
  pub sent : Sent sh b k
  pub long : k.at + 4 + 24 * num msg k.at 4 ≤ length msg
  pub room : num msg k.at 4 ≤ sh.c
  pub good : good_log sh.s (state_of sh b).site.group (sent_log msg k.at) ≡ true
  pub within : k.sync ≤ num msg k.at 4

-- ---- one of them

-- the vote, and an empty one where there is none
unfoldable pub vote_of : Option Vote → Vote
vote_of none = record { normal = 0; sync = 0; log = [] }
vote_of (some v) = v

-- it is there, with this last normal gView
unfoldable pub counts_at : ℕ → Option Vote → Bool
counts_at top none = false
counts_at top (some v) = eqb v.normal top

-- its last normal gView and its sync point, where it is there
unfoldable pub ballot_in : Option Vote → rust.Option Ballot
ballot_in none = None
ballot_in (some v) = Some (record { normal = v.normal; sync = v.sync })

-- what is told of it is right
abbrev pub Tells : Option Vote → rust.Option Ballot → Type 0
Tells x t = t ≡ ballot_in x

-- the bytes begin with the count of these entries, and the entries
pub record Lists (c : ℕ) (es : List Entry) (t : List ℕ) : Type 0 where
  pub count : num t 0 4 ≡ length es
  pub room : length es ≤ c
  pub size : 4 + 24 * length es ≤ length t
  pub rows : items (entry_at t) 24 4 (length es) ≡ es

-- ---- the best of them

-- the sync point of the best so far
abbrev pub sync_of : rust.Option Best → ℕ
sync_of None = 0
sync_of (Some b) = b.sync

-- the better of the best so far and the vote of replica r, of which this is told
unfoldable pub better_of : ℕ → rust.Option Best → ℕ → rust.Option Ballot → rust.Option Best
better_of top x r None = x
better_of top x r (Some t) = pick (eqb t.normal top && ltb (sync_of x) t.sync) (Some (record { replica = r; sync = t.sync })) x

-- of the first r replicas, this one's vote is the best that counts
pub record BestIn (n : ℕ) (vs : List (Option Vote)) (top r : ℕ) (b : Best) : Type 0 where
  pub is : best (with_normal top (take r vs)) ≡ vote_of (get_or vs b.replica none)
  pub sync : b.sync ≡ (vote_of (get_or vs b.replica none)).sync
  pub within : b.replica < n
  pub held : is_some (get_or vs b.replica none) ≡ true
  pub some : 0 < b.sync

-- the best counted vote of the first r replicas, none where no sync point is above 0
abbrev pub BestTo : ℕ → List (Option Vote) → ℕ → ℕ → rust.Option Best → Type 0
BestTo n vs top r x = MatchOption x (best (with_normal top (take r vs)) ≡ vote_of none) (BestIn n vs top r)
