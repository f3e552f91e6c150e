-- The vote of each replica: the sender's, the own one, or the one kept. Assumes nothing.
use Prim.Native.Nat.{ℕ, ◌+◌, ◌*◌, ◌<◌}
use mathlib.Core.Path.{◌≡◌, refl, sym, ap, ◌∙◌}
use mathlib.Core.Bool.{Bool, true, false}
use mathlib.Core.Option.{Option, none, some}
use Rattle.std.specs.Prelude.{Some, None}
use mathlib.Core.List.{List}
use native.Mathlib.Omega.{arith}
use lib.ListN.{length, get_or, set, replicate, length-set, length-replicate, get_or-replicate}
use lib.Seq.{get_or-set_same, get_or-set_other}
use lib.Dec.{eqb}
use borrow.Author.Tests.{eqb-true, eqb-false, eq-eqb, ne_eqb}
use Rattle.octets.specs.Bytes.{num}
use Rattle.rules.specs.Choice.{pick, is_some}
use Rattle.rules.specs.State.{Vote, State}
use Rattle.rules.specs.Image.{vote_length, vote_at, state_of, at_votes}
use Rattle.rules.specs.Step.{own_vote}
use Rattle.rules.specs.declared.Shape.{Shape}
use Rattle.rules.proofs.Choice.{by_cases, pick_true, pick_false}
use Rattle.places.specs.Layout.{start_of}
use Rattle.places.proofs.Sections.{stands_fits, stands_midway}
use Rattle.places.proofs.Head.{replica_of, normal_of, sync_of}
use Rattle.places.proofs.Kept.{vote_at_lem, vote_normal, vote_sync}
use Rattle.ballots.specs.Ballots.{ballots, sent_log, votes_in, ballot_in, Sent, Tells}
use Rattle.ballots.specs.declared.Cast.{Cast}

-- ---- the votes that count, as the rules of the step say them

pub ballots_kept : (sh : Shape) (st : State) (r : ℕ) (v : Vote) → ballots sh st false r v ≡ set st.change.votes r (some v)
unfolding ballots pick
ballots_kept sh st r v = refl

pub ballots_entering : (sh : Shape) (st : State) (r : ℕ) (v : Vote) → ballots sh st true r v ≡ set (set (replicate sh.n none) st.site.replica (some (own_vote st))) r (some v)
unfolding ballots pick
ballots_entering sh st r v = refl

-- ---- each of them

-- a vote that is there
pub is_some_lem : {A : Type 0} (x : Option A) → is_some x ≡ true → (a : A) × (x ≡ some a)
is_some_lem none h = absurd (let z : ◌≡◌ {A = ℕ} 0 1 = cc in omega arith)
is_some_lem (some a) h = (a, refl)

-- and of none nothing is told
no_ballot : (x : Option Vote) → is_some x ≡ false → Tells x None
unfolding ballot_in
no_ballot none h = refl
no_ballot (some v) h = cc

module _ (sh : Shape) (b msg : List ℕ) (k : Cast) (g : Sent sh b k) where
  abbrev st : State
  st = state_of sh b

  abbrev own : List (Option Vote)
  own = set (replicate sh.n none) st.site.replica (some (own_vote st))

  kept_long : (t : Bool) → length (pick t own st.change.votes) ≡ sh.n
  unfolding pick
  kept_long true = length-set (replicate sh.n none) st.site.replica (some (own_vote st)) ∙ length-replicate sh.n none
  kept_long false = (stands_fits g.stands).vote_places

  pub votes_long : length (votes_in sh b msg k) ≡ sh.n
  unfolding votes_in ballots
  votes_long = length-set (pick k.entering own st.change.votes) k.sender _ ∙ kept_long k.entering

  pub at_sender : (r : ℕ) → r ≡ k.sender → get_or (votes_in sh b msg k) r none ≡ some (record { normal = k.normal; sync = k.sync; log = sent_log msg k.at })
  unfolding votes_in ballots
  at_sender r e =
      let l : k.sender < length (pick k.entering own st.change.votes) = omega (arith, g.sender, kept_long k.entering) in
      rw e (get_or-set_same (pick k.entering own st.change.votes) k.sender _ none l)

  pub at_own : (r : ℕ) → r < sh.n → (r ≡ k.sender → ⊥) → k.entering ≡ true → get_or (votes_in sh b msg k) r none ≡ pick (eqb r st.site.replica) (some (own_vote st)) none
  unfolding votes_in ballots
  at_own r h d e =
      get_or-set_other (pick k.entering own st.change.votes) k.sender r _ none d
      ∙ ap (λ (xs : List (Option Vote)). get_or xs r none) (pick_true k.entering own st.change.votes e)
      ∙ by_cases (eqb r st.site.replica) (λ t. here t) (λ t. other t)
    where
      here : eqb r st.site.replica ≡ true → get_or own r none ≡ pick (eqb r st.site.replica) (some (own_vote st)) none
      here t =
          let z : r ≡ st.site.replica = eqb-true r st.site.replica t in
          let l : st.site.replica < length (replicate {A = Option Vote} sh.n none) = omega (arith, length-replicate {A = Option Vote} sh.n none) in
          ap (λ (i : ℕ). get_or own i none) z ∙ get_or-set_same (replicate sh.n none) st.site.replica (some (own_vote st)) none l ∙ sym (pick_true (eqb r st.site.replica) _ none t)

      other : eqb r st.site.replica ≡ false → get_or own r none ≡ pick (eqb r st.site.replica) (some (own_vote st)) none
      other t =
          get_or-set_other (replicate sh.n none) st.site.replica r (some (own_vote st)) none (eqb-false r st.site.replica t)
          ∙ get_or-replicate sh.n r none none h
          ∙ sym (pick_false (eqb r st.site.replica) (some (own_vote st)) none t)

  pub at_kept : (r : ℕ) → (r ≡ k.sender → ⊥) → k.entering ≡ false → get_or (votes_in sh b msg k) r none ≡ get_or st.change.votes r none
  unfolding votes_in ballots
  at_kept r d e =
      get_or-set_other (pick k.entering own st.change.votes) k.sender r _ none d
      ∙ ap (λ (xs : List (Option Vote)). get_or xs r none) (pick_false k.entering own st.change.votes e)

  -- ---- what is told of each
  pub tells_sender : (r : ℕ) → r ≡ k.sender → Tells (get_or (votes_in sh b msg k) r none) (Some (record { normal = k.normal; sync = k.sync }))
  unfolding ballot_in
  tells_sender r e = rw (at_sender r e)

  module _ (r : ℕ) (h : r < sh.n) (d : r ≡ k.sender → ⊥) where
    pub tells_other : (own : ℕ) → k.entering ≡ true → own ≡ num b 1 1 → (r ≡ own → ⊥) → Tells (get_or (votes_in sh b msg k) r none) None
    unfolding pick ballot_in
    tells_other own e p q = rw (at_own r h d e, ne_eqb r st.site.replica (λ t. q (t ∙ sym (p ∙ replica_of (stands_midway g.stands)))))

    pub tells_own : (own normal sync : ℕ) → k.entering ≡ true → own ≡ num b 1 1 → r ≡ own → normal ≡ num b 12 4 → sync ≡ num b 24 8 → Tells (get_or (votes_in sh b msg k) r none) (Some (record { normal = normal; sync = sync }))
    unfolding pick ballot_in
    tells_own own normal sync e p o q s =
        rw (at_own r h d e, eq-eqb r st.site.replica (o ∙ p ∙ replica_of (stands_midway g.stands)), q ∙ normal_of (stands_midway g.stands), s ∙ sync_of (stands_midway g.stands))

    module _ (held : Bool) (e : k.entering ≡ false) (p : held ≡ is_some (vote_at sh.c b (start_of sh at_votes + vote_length sh.c * r))) where
      held_is : held ≡ is_some (get_or st.change.votes r none)
      held_is = p ∙ ap is_some (vote_at_lem (stands_midway g.stands) r h)

      pub tells_none : held ≡ false → Tells (get_or (votes_in sh b msg k) r none) None
      tells_none f = rw (at_kept r d e) (no_ballot (get_or st.change.votes r none) (sym held_is ∙ f))

      pub tells_kept : (normal sync : ℕ) → held ≡ true → normal ≡ num b (start_of sh at_votes + vote_length sh.c * r + 1) 4 → sync ≡ num b (start_of sh at_votes + vote_length sh.c * r + 5) 8 → Tells (get_or (votes_in sh b msg k) r none) (Some (record { normal = normal; sync = sync }))
      unfolding ballot_in
      tells_kept normal sync f q s =
          let v = is_some_lem (get_or st.change.votes r none) (sym held_is ∙ f) in
          rw (at_kept r d e, v.1, q ∙ vote_normal (stands_midway g.stands) r v.0 h v.1, s ∙ vote_sync (stands_midway g.stands) r v.0 h v.1)
