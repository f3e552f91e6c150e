-- Entering a view and starting one, over what the bytes of the state and of the message give.
use Rattle.std.specs.Prelude.{ℕ, ◌+◌, ◌*◌, Bool, List, [], ◌∷◌, length, set, replicate, eqb}
use Rattle.std.proofs.Math.Option.{Option, none, some}
use Rattle.octets.specs.Bytes.{num, part}
use Rattle.rules.specs.Choice.{pick}
use Rattle.rules.specs.Group.{leader, only, others}
use Rattle.rules.specs.State.{Vote, State, in_view, with_waiting, with_change}
use Rattle.rules.specs.Step.{Outcome, done, send_followers, own_vote, started}
use Rattle.rules.specs.declared.Entry.{Entry}
use Rattle.rules.specs.declared.Shape.{Shape}
use Rattle.rules.specs.declared.Message.{Message}
use Rattle.rules.specs.declared.Message.TheVariants as cases
use Rattle.places.specs.Layout.{start_of}
use Rattle.handler.specs.Sending.{headed_in, leader_in}
use Rattle.rules.specs.Image.{state_of, at_log}

-- ---- states

-- whether the own replica leads its group by a gVec
abbrev pub leads_with : Shape → State → List ℕ → Bool
leads_with sh st g_vec = eqb st.site.replica (leader sh.n g_vec st.site.group)

-- a leader's own vote alone, or none
abbrev pub first_kept : Shape → State → Bool → List (Option Vote)
first_kept sh st leads = pick leads (set (replicate sh.n none) st.site.replica (some (own_vote st))) (replicate sh.n none)

-- a view entered, by whether the site leads in it
abbrev pub entered_by : Shape → State → ℕ → List ℕ → Bool → State
entered_by sh st view g_vec leads =
    in_view view g_vec st.view.normal 2
    (with_waiting [] [] []
    (with_change (first_kept sh st leads) [] 0 (replicate sh.s none) st))

-- a view started by its leader, who sends the log to all followers
abbrev pub led_by : Shape → State → ℕ → List ℕ → List Entry → Outcome
led_by sh st view g_vec draft = done (started sh st view g_vec draft) (send_followers sh (started sh st view g_vec draft) 9 draft ∷ [])

-- ---- bytes

-- the entries of the log, as they stand
abbrev pub log_in : Shape → List ℕ → List ℕ
log_in sh b = part b (start_of sh at_log + 4) (24 * length (state_of sh b).logged.log)

-- ---- what is sent

-- the own vote, to the leader of the own group
abbrev pub vote_in : Shape → List ℕ → Message
vote_in sh b = cases.Vote (headed_in b 8 (num b 0 1) (only (leader_in sh b (num b 0 1)))) (num b 12 4) (num b 24 8)

-- the start of a view, to all followers
abbrev pub start_in : Shape → List ℕ → Message
start_in sh b = cases.StartView (headed_in b 9 (num b 0 1) (others sh.n (num b 1 1)))
