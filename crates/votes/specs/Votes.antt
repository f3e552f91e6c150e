-- What the handler of kind 8 is given of a vote, and the states in which it keeps it.
use Rattle.std.specs.Prelude.{ℕ, ◌+◌, ◌*◌, ◌^◌, ◌≤◌, ◌<◌, ◌≡◌, Bool, true, false, ◌&&◌, not, List, [], ◌∷◌, length, get_or, eqb}
use Rattle.std.proofs.Math.Option.{Option, none}
use Rattle.octets.specs.Bytes.{le, splice}
use Rattle.rules.specs.Choice.{pick, is_some}
use Rattle.rules.specs.State.{Vote, State, with_change, held}
use Rattle.rules.specs.Image.{table_bytes, state_of, at_draft}
use Rattle.rules.specs.Rebuild.{rebuilt}
use Rattle.rules.specs.Step.{Outcome, done, sends, send_leader, other_groups, starts, changing, verifies}
use Rattle.rules.specs.declared.Entry.{Entry}
use Rattle.rules.specs.declared.Shape.{Shape}
use Rattle.places.specs.Layout.{start_of}
use Rattle.views.specs.Views.{views_of}
use Rattle.changes.specs.Changes.{entered_by}
use Rattle.ballots.specs.Ballots.{votes_in, Given}
use Rattle.ballots.specs.declared.Cast.{Cast}

-- a vote that may be kept; where its view is not a greater one, it is the own one
pub record Brought (sh : Shape) (b msg : List ℕ) (view : ℕ) (k : Cast) : Type 0 where
  pub given : Given sh b msg k
  pub normal : k.normal < 2 ^ 32
  pub wide : view < 256 ^ 4
  pub views : 16 + 4 * sh.s ≤ length msg
  pub status : k.entering ≡ false → (state_of sh b).view.status ≡ 2
  pub same_view : k.entering ≡ false → view ≡ (state_of sh b).view.g_view
  pub same_views : k.entering ≡ false → views_of sh msg ≡ (state_of sh b).view.g_vec

-- the sender's vote is kept already: no other's is where a greater view is entered
abbrev pub is_second : Shape → List ℕ → Cast → Bool
is_second sh b k = not k.entering && is_some (get_or (state_of sh b).change.votes k.sender none)

-- how many votes there are with this one
abbrev pub count_with : Shape → List ℕ → Cast → ℕ
count_with sh b k = pick k.entering 2 (held (state_of sh b).change.votes + 1)

-- the state in the vote's view, which is entered where it is a greater one
unfoldable pub came_to : Shape → List ℕ → List ℕ → ℕ → Bool → State
came_to sh b msg view entering = pick entering (entered_by sh (state_of sh b) view (views_of sh msg) true) (state_of sh b)

-- with these votes kept
abbrev pub voting : State → List (Option Vote) → State
voting st votes = with_change votes st.change.draft st.change.boundary st.change.replies st

-- with the vote kept
abbrev pub kept_in : Shape → List ℕ → List ℕ → ℕ → Cast → State
kept_in sh b msg view k = voting (came_to sh b msg view k.entering) (votes_in sh b msg k)

-- a draft, its boundary and status 3 written
abbrev pub drafted_in : Shape → List ℕ → List Entry → ℕ → List ℕ
drafted_in sh b draft boundary = splice (splice (splice b (start_of sh at_draft) (table_bytes sh.c draft)) 40 (le 8 boundary)) 2 (le 1 3)

-- with a draft at hand, the leaders of all other groups are asked
abbrev pub asks_all : Shape → State → List (Option Vote) → List Entry → ℕ → Outcome
asks_all sh st votes draft boundary =
    done (changing st 3 votes draft boundary st.change.replies) (sends (λ j. send_leader sh st 18 j (boundary ∷ []) []) (other_groups sh st (λ j. true)))

-- with F+1 votes: one group starts at once, more verify first
abbrev pub concludes : Shape → State → List (Option Vote) → Outcome
concludes sh st votes = pick (eqb sh.s 1) (starts sh st (rebuilt sh.n votes)) (verifies sh st votes)
