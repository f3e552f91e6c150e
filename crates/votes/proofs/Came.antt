-- The state in the view of a vote: entered, or as it stands; with the vote kept, and with a draft. Assumes nothing.
use Prim.Native.Nat.{ℕ, zero, suc, ◌+◌, ◌*◌, ◌^◌, ◌≤◌, ◌<◌}
use mathlib.Core.Path.{◌≡◌, refl, sym, ap, subst, ◌∙◌}
use mathlib.Core.Bool.{Bool, true, false}
use mathlib.Core.Option.{Option, none, some}
use mathlib.Core.List.{List, [], ◌∷◌}
use native.Mathlib.Omega.{arith}
use lib.ListN.{length, set, replicate, length-set, length-replicate}
use Rattle.octets.specs.Bytes.{le, num, part, splice, items}
use Rattle.octets.proofs.Laws.{Bytes}
use Rattle.octets.proofs.Codecs.{All, length_items}
use Rattle.rules.specs.Kind.{row_of}
use Rattle.rules.specs.Choice.{pick}
use Rattle.rules.specs.Read.{entry_at}
use Rattle.rules.specs.State.{Vote, State, in_view, with_change}
use Rattle.rules.specs.Image.{table_length, vote_length, table_bytes, vote_bytes, table_at, image, state_of, at_draft, at_votes}
use Rattle.rules.specs.Step.{own_vote, started}
use Rattle.rules.specs.declared.Entry.{Entry}
use Rattle.rules.specs.declared.Shape.{Shape}
use Rattle.rules.proofs.Choice.{by_cases, pick_true, pick_false}
use Rattle.rules.proofs.Tests.{all-1}
use Rattle.rules.proofs.Tables.{VoteIs, VoteFits, vote}
use Rattle.entries.specs.Table.{Table}
use Rattle.places.specs.Layout.{start_of, Stands}
use Rattle.places.proofs.Sections.{Laid, laid_as, stands_fits, stands_laid}
use Rattle.places.proofs.Head.{put_boundary, put_status}
use Rattle.places.proofs.Tables.{put_draft}
use Rattle.places.proofs.Kept.{put_vote}
use Rattle.handler.proofs.Own.{replica_below}
use Rattle.handler.proofs.Sends.{Sender, sender}
use Rattle.views.specs.Views.{views_of, Spare, Kept}
use Rattle.views.proofs.Cleared.{vote_kept, draft_spare}
use Rattle.changes.specs.Changes.{entered_by}
use Rattle.changes.proofs.Entered.{even_none, entered_laid, entered_sender}
use Rattle.changes.proofs.Started.{table_row}
use Rattle.ballots.specs.Ballots.{sent_log, votes_in}
use Rattle.ballots.specs.declared.Cast.{Cast}
use Rattle.ballots.proofs.Votes.{ballots_kept, ballots_entering}
use Rattle.votes.specs.Votes.{Brought, came_to, voting, kept_in, drafted_in}

-- the vote that the message brings
abbrev pub said : List ℕ → Cast → Vote
said msg k = record { normal = k.normal; sync = k.sync; log = sent_log msg k.at }

-- ---- votes that fit their bytes

none_fit : (c n : ℕ) → All (VoteFits c) (replicate n none)
none_fit c zero = tt
none_fit c (suc n) = (tt, none_fit c n)

set_fit : (c : ℕ) (xs : List (Option Vote)) (r : ℕ) (y : Option Vote) → All (VoteFits c) xs → VoteFits c y → All (VoteFits c) (set xs r y)
set_fit c [] r y f g = tt
set_fit c (x ∷ xs) zero y f g = (g, f.1)
set_fit c (x ∷ xs) (suc r) y f g = (f.0, set_fit c xs r y f.1 g)

-- no entry has room
none_room : (c : ℕ) → length {A = Entry} [] ≤ c
none_room c = omega arith

-- ---- what is known of the state in the vote's view

pub record Comes (sh : Shape) (b msg : List ℕ) (v : ℕ) (k : Cast) (st : State) : Type 0 where
  pub votes : set st.change.votes k.sender (some (said msg k)) ≡ votes_in sh b msg k
  pub fit : All (VoteFits sh.c) st.change.votes
  pub places : length st.change.votes ≡ sh.n
  pub draft : length st.change.draft ≤ sh.c
  pub laid : (b' : List ℕ) → b' ≡ image sh st → Laid sh st b'
  pub sends : Sender sh st
  pub status : st.view.status ≡ 2
  pub group : st.site.group ≡ (state_of sh b).site.group
  pub begins : (es : List Entry) → started sh st st.view.g_view st.view.g_vec es ≡ started sh (state_of sh b) v (views_of sh msg) es

module _ (sh : Shape) (b msg : List ℕ) (view : ℕ) (k : Cast) (g : Brought sh b msg view k) where
  abbrev st : State
  st = state_of sh b

  abbrev entered : State
  entered = entered_by sh st view (views_of sh msg) true

  stands : Stands sh st b
  stands = g.given.sent.stands

  came_entered : k.entering ≡ true → came_to sh b msg view k.entering ≡ entered
  unfolding came_to
  came_entered e = pick_true k.entering entered st e

  came_same : k.entering ≡ false → came_to sh b msg view k.entering ≡ st
  unfolding came_to
  came_same e = pick_false k.entering entered st e

  module _ (bs : Bytes msg) (v : view < 256 ^ 4) where
    comes_entered : k.entering ≡ true → Comes sh b msg view k entered
    unfolding votes_in pick row_of
    comes_entered e =
        let f = stands_fits stands in
        let n = even_none sh.c sh.n in
        let o : VoteIs sh.c (own_vote st) = record { normal = f.normal; sync = f.sync; log = f.log } in
        let l = put_vote (entered_laid stands view msg bs g.views refl) st.site.replica (own_vote st) n f.log.room (replica_below stands) refl in
        let s = entered_sender stands view msg bs g.views v in
        record {
          votes = sym (rw e (ballots_entering sh st k.sender (said msg k)));
          fit = set_fit sh.c (replicate sh.n none) st.site.replica (some (own_vote st)) (none_fit sh.c sh.n) o;
          places = length-set (replicate sh.n none) st.site.replica (some (own_vote st)) ∙ length-replicate {A = Option Vote} sh.n none;
          draft = none_room sh.c;
          laid = λ b' i. laid_as l i;
          sends = record { group = s.group; replica = s.replica; view = s.view; places = s.places; g_vec = s.g_vec };
          status = refl;
          group = refl;
          begins = λ es. refl;
        }

    comes_same : k.entering ≡ false → Comes sh b msg view k st
    unfolding votes_in
    comes_same e =
        record {
          votes = sym (rw e (ballots_kept sh st k.sender (said msg k)));
          fit = (stands_fits stands).votes;
          places = (stands_fits stands).vote_places;
          draft = (stands_fits stands).draft.room;
          laid = λ b' i. laid_as (stands_laid stands) i;
          sends = sender (stands_fits stands);
          status = g.status e;
          group = refl;
          begins = λ es. rw (g.same_view e, g.same_views e);
        }

    pub comes : Comes sh b msg view k (came_to sh b msg view k.entering)
    comes =
        by_cases k.entering
        (λ e. subst (Comes sh b msg view k) (sym (came_entered e)) (comes_entered e))
        (λ e. subst (Comes sh b msg view k) (sym (came_same e)) (comes_same e))

    -- ---- the vote kept

    -- it has a place
    pub vote_place : (b₁ : List ℕ) → b₁ ≡ image sh (came_to sh b msg view k.entering) → Kept 13 sh.c b₁ (start_of sh at_votes + vote_length sh.c * k.sender)
    vote_place b₁ i = vote_kept (comes.laid b₁ i) stands.fits.small comes.fit comes.places k.sender g.given.sent.sender

    laid_kept : {b₁ b₂ : List ℕ} → b₁ ≡ image sh (came_to sh b msg view k.entering) → b₂ ≡ splice b₁ (start_of sh at_votes + vote_length sh.c * k.sender) (vote_bytes sh.c (some (said msg k))) → Laid sh (kept_in sh b msg view k) b₂
    laid_kept {b₁} {b₂} i w =
        let r : length (sent_log msg k.at) ≤ sh.c = omega (arith, g.given.room, length_items (entry_at msg) 24 (k.at + 4) (num msg k.at 4)) in
        subst (λ (vs : List (Option Vote)). Laid sh (voting (came_to sh b msg view k.entering) vs) b₂) comes.votes
        (put_vote (comes.laid b₁ i) k.sender (said msg k) (all-1 (vote sh.c).long (came_to sh b msg view k.entering).change.votes comes.fit) r g.given.sent.sender w)

    -- its bytes
    pub kept_laid : {b' : List ℕ} → b' ≡ image sh (kept_in sh b msg view k) → Laid sh (kept_in sh b msg view k) b'
    kept_laid e = laid_as (laid_kept refl refl) e

    -- and behind the entries of the draft, if it has any, is nothing
    pub draft_free : (b₁ : List ℕ) → b₁ ≡ image sh (kept_in sh b msg view k) → Spare 24 sh.c (part b₁ (start_of sh at_draft) (table_length sh.c))
    draft_free b₁ e = draft_spare (kept_laid e) stands.fits.small comes.draft

    pub kept : (b₁ b₂ : List ℕ) (at number normal : ℕ) → b₁ ≡ image sh (came_to sh b msg view k.entering) → at ≡ k.at → number ≡ num msg at 4 → normal ≡ k.normal
        → b₂ ≡ splice b₁ (start_of sh at_votes + vote_length sh.c * k.sender) (vote_bytes sh.c (some (record { normal = normal; sync = k.sync; log = items (entry_at msg) 24 (at + 4) number }))) → b₂ ≡ image sh (kept_in sh b msg view k)
    kept b₁ b₂ at number normal i a n m w = (laid_kept i (w ∙ rw (n, a, m))).bytes

-- ---- the view

module _ (sh : Shape) (b msg : List ℕ) (view : ℕ) (entering : Bool) where
  pub stays : Stands sh (state_of sh b) b → entering ≡ false → b ≡ image sh (came_to sh b msg view entering)
  unfolding came_to
  stays s e = s.bytes ∙ ap (image sh) (sym (pick_false entering _ (state_of sh b) e))

  pub enters : {b' : List ℕ} → entering ≡ true → b' ≡ image sh (entered_by sh (state_of sh b) view (views_of sh msg) true) → b' ≡ image sh (came_to sh b msg view entering)
  unfolding came_to
  enters e w = w ∙ ap (image sh) (sym (pick_true entering _ (state_of sh b) e))

-- ---- the draft

pub draft_taken : (sh : Shape) (b b₁ b₂ b₃ t : List ℕ) (draft number boundary : ℕ) → Table sh.c t → draft ≡ start_of sh at_draft → number ≡ num t 0 4 → b₁ ≡ splice b draft (table_bytes sh.c (items (entry_at t) 24 4 number)) → b₂ ≡ splice b₁ 40 (le 8 boundary) → b₃ ≡ splice b₂ 2 (le 1 3) → b₃ ≡ drafted_in sh b (table_at sh.c t 0) boundary
draft_taken sh b b₁ b₂ b₃ t draft number boundary h d n w₁ w₂ w₃ = rw (w₃, w₂, w₁, d, table_row sh.c t number h n)

module _ {sh : Shape} {st : State} {b : List ℕ} (l : Laid sh st b) where
  pub drafted : {b' : List ℕ} (es : List Entry) (boundary : ℕ) → length es ≤ sh.c → b' ≡ drafted_in sh b es boundary → Laid sh (in_view st.view.g_view st.view.g_vec st.view.normal 3 (with_change st.change.votes es boundary st.change.replies st)) b'
  drafted es boundary r w = put_status (put_boundary (put_draft l es r refl) boundary refl) 3 w
