-- What the parts of the rebuild give: the prefix, what is added.
use Rattle.std.specs.Prelude.{ℕ, ◌+◌, ◌≤◌, ◌<◌, ◌≡◌, Bool, true, false, ◌&&◌, List, [], length, take, get_or, eqb}
use Rattle.std.specs.Prelude as rust
use Rattle.std.specs.Prelude.{Some, None}
use Rattle.std.proofs.Math.Option.{Option, none}
use Rattle.rules.specs.Choice.{pick, any, keep}
use Rattle.rules.specs.Entry.{same_key, place_all}
use Rattle.rules.specs.Log.{last_of}
use Rattle.rules.specs.State.{Vote}
use Rattle.rules.specs.Rebuild.{top_from, with_normal, prefix, holders, is_added, rebuilt, boundary_of}
use Rattle.rules.specs.declared.Entry.{Entry}
use Rattle.entries.specs.Table.{Holds}
use Rattle.ballots.specs.Ballots.{vote_of, counts_at, BestTo}
use Rattle.rebuild.specs.Tables.{votes_of, Counted}
use Rattle.rebuild.specs.declared.Basis.{Basis}
use Rattle.rebuild.specs.declared.Votes.{Votes}

-- what the rebuild starts from is right
pub record Based (n : ℕ) (vs : List (Option Vote)) (b : Basis) : Type 0 where
  pub top : b.count.top ≡ top_from 0 vs
  pub best : BestTo n vs b.count.top n b.best
  pub last : b.last ≡ last_of (prefix (with_normal b.count.top vs))

-- and so are the votes that are given and their slots
pub record Starts (v : Votes) (k : Basis) (slots : List ℕ) : Type 0 where
  pub counted : Counted v k.count slots
  pub based : Based v.shape.n (votes_of v) k

-- the votes of replicas below r that count
abbrev pub lower : ℕ → List (Option Vote) → ℕ → List Vote
lower top vs r = with_normal top (take r vs)

-- the vote counts and holds e
unfoldable pub holds_at : ℕ → Entry → Option Vote → Bool
holds_at top e x = counts_at top x && any (same_key e) (vote_of x).log

-- e, in the vote of replica r, is to be added: no lower vote holds it
unfoldable pub is_new : ℕ → ℕ → List (Option Vote) → ℕ → Entry → Bool
is_new n top vs r e = is_added n (with_normal top vs) e && eqb (holders (lower top vs r) e) 0

-- what the vote of replica r adds, where it counts
unfoldable pub new_from : ℕ → ℕ → List (Option Vote) → ℕ → List Entry
new_from n top vs r = pick (counts_at top (get_or vs r none)) (keep (is_new n top vs r) (vote_of (get_or vs r none)).log) []

-- all entries are put in order into the table, or there are too many for it
unfoldable pub Adds : ℕ → List Entry → List Entry → List ℕ → Bool → Type 0
Adds c es xs t true = Holds c (place_all es xs) t
Adds c es xs t false = c < length es + length xs

-- the rebuilt log stands in the table, beside its boundary, or it is too long for it
unfoldable pub Gives : ℕ → ℕ → List (Option Vote) → List ℕ → rust.Option ℕ → Type 0
Gives c n vs t None = c < length (rebuilt n vs)
Gives c n vs t (Some boundary) = Holds c (rebuilt n vs) t × (boundary ≡ boundary_of vs)
