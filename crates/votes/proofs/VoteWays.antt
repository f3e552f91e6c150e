-- The ways through the handler of kind 8. Assumes nothing.
use Prim.Native.Nat.{ℕ, ◌+◌, ◌*◌, ◌≤◌, ◌<◌}
use mathlib.Core.Path.{◌≡◌, sym, ap, subst, ◌∙◌}
use mathlib.Core.Bool.{Bool, true, false, not}
use mathlib.Core.Option.{Option, none, some}
use mathlib.Core.List.{List, []}
use native.Mathlib.Omega.{arith}
use lib.ListN.{length, get_or, set, replicate, length-set, length-replicate, get_or-replicate}
use lib.Seq.{get_or-set_other}
use lib.Dec.{eqb, ltb, leb}
use borrow.Author.Tests.{lt-ltb, le-ltb, le-leb, lt-leb, eqb-true, eqb-false, not-true}
use Rattle.octets.specs.Bytes.{num, items}
use Rattle.octets.proofs.Laws.{Bytes}
use Rattle.rules.specs.Choice.{pick, is_some, any}
use Rattle.rules.specs.Group.{majority}
use Rattle.rules.specs.Log.{good_log}
use Rattle.rules.specs.Wire.{Wire, tag_of, header_in, numbers_of}
use Rattle.rules.specs.Kind.{bare, known, from_outside, with_log, row_of}
use Rattle.rules.specs.Wire as wires
use Rattle.rules.specs.Read.{wire_in, entries_at, length_for, entry_at, formed}
use Rattle.rules.specs.State.{Vote, State, held}
use Rattle.rules.specs.Image.{image, state_of}
use Rattle.rules.specs.Step.{Outcome, refused, done, newer, equal, view_right, status_right, leads_by, from_own, role_right, own_vote, entered, changing, keeps_vote, on_vote}
use Rattle.rules.specs.Bytes.{Left, leaves, closes}
use Rattle.rules.specs.declared.Header.{Header}
use Rattle.rules.specs.declared.Shape.{Shape}
use Rattle.rules.specs.declared.Message.{Message}
use Rattle.rules.specs.declared.Message.TheVariants as cases
use Rattle.rules.proofs.Choice.{by_cases, pick_true, pick_false, and_left, and_right, or_cases, clash}
use Rattle.rules.proofs.Tests.{same_true}
use Rattle.rules.proofs.KeptMessage.{view_wide, vote_parts}
use Rattle.places.proofs.Sections.{stands_fits, stands_midway}
use Rattle.places.proofs.Head.{view_of}
use Rattle.handler.specs.Handler.{Ready, handled}
use Rattle.handler.proofs.Own.{replica_below}
use Rattle.handler.proofs.Told.{Told, told_number, told_formed, told_sender, told_length, told_entries, told_count, ready_told, ready_log}
use Rattle.handler.proofs.Closes.{quiet, closes_refused, closes_quiet, handled_own}
use Rattle.views.specs.Views.{views_of}
use Rattle.changes.specs.Changes.{leads_with}
use Rattle.changes.proofs.Entered.{entered_is}
use Rattle.changes.proofs.Said.{view_said, views_said, views_stand}
use Rattle.ballots.specs.Ballots.{sent_log, votes_in, Sent}
use Rattle.ballots.specs.declared.Cast.{Cast}
use Rattle.votes.specs.Votes.{Brought, is_second, count_with, came_to, kept_in, concludes}
use Rattle.votes.proofs.Counted.{held_more, held_none}
use Rattle.votes.proofs.Came.{said, Comes, comes}

-- ---- the rule, test by test

module _ (sh : Shape) (st : State) (r : ℕ) (v : Vote) where
  abbrev with_it : List (Option Vote)
  with_it = set st.change.votes r (some v)

  abbrev kept_already : Bool
  kept_already = is_some (get_or st.change.votes r none)

  second : kept_already ≡ true → keeps_vote sh st r v ≡ refused 7
  unfolding keeps_vote
  second e = pick_true kept_already _ _ e

  module _ (e : kept_already ≡ false) where
    past : sh.c < length v.log → keeps_vote sh st r v ≡ refused 8
    unfolding keeps_vote
    past h = pick_false kept_already _ _ e ∙ pick_false (leb (length v.log) sh.c) _ _ (lt-leb (length v.log) sh.c h)

    module _ (h : length v.log ≤ sh.c) where
      few : held with_it < majority sh.n → keeps_vote sh st r v ≡ done (changing st 2 with_it st.change.draft st.change.boundary st.change.replies) []
      unfolding keeps_vote
      few l = pick_false kept_already _ _ e ∙ pick_true (leb (length v.log) sh.c) _ _ (le-leb (length v.log) sh.c h) ∙ pick_true (ltb (held with_it) (majority sh.n)) _ _ (lt-ltb (held with_it) (majority sh.n) l)

      enough : majority sh.n ≤ held with_it → keeps_vote sh st r v ≡ concludes sh st with_it
      unfolding keeps_vote
      enough l = pick_false kept_already _ _ e ∙ pick_true (leb (length v.log) sh.c) _ _ (le-leb (length v.log) sh.c h) ∙ pick_false (ltb (held with_it) (majority sh.n)) _ _ (le-ltb (held with_it) (majority sh.n) l)

-- ---- what is right of a vote that reaches the handler

record Right (sh : Shape) (st : State) (w : Wire) : Type 0 where
  leads : leads_by sh st w ≡ true
  other : w.from_replica ≡ st.site.replica → ⊥
  status : newer st w ≡ false → st.view.status ≡ 2
  view : newer st w ≡ false → w.view ≡ st.view.g_view
  g_vec : newer st w ≡ false → w.g_vec ≡ st.view.g_vec

right : (sh : Shape) (st : State) (w : Wire) → view_right 8 st w ≡ true → status_right 8 st w ≡ true → role_right 8 sh st w ≡ true → Right sh st w
unfolding view_right status_right role_right pick row_of
right sh st w v s r =
    let p = and_right (leads_by sh st w) _ r in
    let q : not (eqb w.from_replica st.site.replica) ≡ true = and_right (from_own st w) _ p in
    let same-one : newer st w ≡ false → equal st w ≡ true = λ f. or_cases (newer st w) (equal st w) v (λ t. clash (newer st w) t f) (λ t. t) in
    record {
      leads = and_left (leads_by sh st w) _ r;
      other = eqb-false w.from_replica st.site.replica (not-true (eqb w.from_replica st.site.replica) q);
      status = λ f. or_cases (newer st w) (eqb st.view.status 2) s (λ t. clash (newer st w) t f) (λ t. eqb-true st.view.status 2 t);
      view = λ f. eqb-true w.view st.view.g_view (and_left (eqb w.view st.view.g_view) _ (same-one f));
      g_vec = λ f. same_true w.g_vec st.view.g_vec (and_right (eqb w.view st.view.g_view) _ (same-one f));
    }

-- ---- the ways

module _ (sh : Shape) (b msg out : List ℕ) (m : Message) (h : Header) (normal sync : ℕ) (r : Ready sh b m msg) (e : m ≡ cases.Vote h normal sync) (bs : Bytes msg) (at old : ℕ) (a : at ≡ entries_at sh.s 8) (o : old ≡ num b 8 4) where
  abbrev st : State
  st = state_of sh b

  abbrev w : Wire
  w = wire_in sh.s msg

  abbrev k : Cast
  k = record { view = h.view; sender = h.from_replica; normal = normal; sync = sync; at = at; entering = ltb old h.view }

  abbrev here : State
  here = came_to sh b msg h.view k.entering

  abbrev outcome : Left
  outcome = handled 8 on_vote sh m b msg out

  kind_is : tag_of m ≡ 8
  kind_is = ap tag_of e

  kind_known : known (tag_of m) ≡ true
  unfolding any
  kind_known = ap (λ (x : Message). known (tag_of x)) e

  kind_views : bare (tag_of m) ≡ false
  unfolding row_of
  kind_views = ap (λ (x : Message). bare (tag_of x)) e

  told_so : Told sh.n sh.s m msg
  told_so = ready_told sh b msg m r kind_known

  header_is : header_in m ≡ h
  header_is = ap header_in e

  from_is : w.from_replica ≡ h.from_replica
  from_is = ap (λ (x : Header). x.from_replica) (told_so.header ∙ header_is)

  view_is : w.view ≡ h.view
  view_is = view_said sh b msg m r kind_known ∙ ap (λ (x : Header). x.view) header_is

  entries_are : w.entries ≡ sent_log msg at
  entries_are =
      told_entries sh.n sh.s m msg told_so
      ∙ ap (λ (j : ℕ). items (entry_at msg) 24 (entries_at sh.s j + 4) (num msg (entries_at sh.s j) 4)) kind_is
      ∙ ap (sent_log msg) (sym a)

  entries_long : length w.entries ≡ num msg at 4
  entries_long = told_count sh.n sh.s m msg told_so ∙ ap (λ (j : ℕ). num msg (entries_at sh.s j) 4) kind_is ∙ ap (λ (x : ℕ). num msg x 4) (sym a)

  vote_is : ◌≡◌ {A = Vote} (record { normal = wires.number w 0; sync = wires.number w 1; log = w.entries }) (said msg k)
  vote_is =
      let x : wires.number w 0 ≡ normal = told_number sh.n sh.s m msg told_so 0 ∙ ap (λ (y : Message). get_or (numbers_of y) 0 0) e in
      let y : wires.number w 1 ≡ sync = told_number sh.n sh.s m msg told_so 1 ∙ ap (λ (y : Message). get_or (numbers_of y) 1 0) e in
      rw (x, y, entries_are)

  is_right : Right sh st w
  is_right = right sh st w (rw kind_is at r.view) (rw kind_is at r.status) (rw kind_is at r.role)

  entering_is : newer st w ≡ k.entering
  entering_is = rw (o ∙ view_of (stands_midway r.stands), view_is)

  leads_is : true ≡ leads_with sh st (views_of sh msg)
  leads_is = rw (← views_said sh b msg m r kind_known kind_views) (sym is_right.leads)

  here_is : pick (newer st w) (entered sh st w) st ≡ here
  unfolding came_to
  here_is =
      ap (λ (t : Bool). pick t (entered sh st w) st) entering_is
      ∙ ap (λ (x : State). pick k.entering x st) (entered_is sh st w h.view (views_of sh msg) true view_is (views_said sh b msg m r kind_known kind_views) leads_is)

  by_rule : (x : Outcome) → keeps_vote sh here k.sender (said msg k) ≡ x → outcome ≡ closes sh b out x
  unfolding on_vote
  by_rule x q = handled_own 8 on_vote sh m b msg out kind_is ∙ ap (closes sh b out) (rw (here_is, from_is, vote_is) q)

  -- ---- what the vote brings

  whole : length msg ≡ at + 4 + 24 * num msg at 4
  whole = told_length sh.n sh.s m msg told_so ∙ ap (λ (j : ℕ). length_for sh.s j (num msg (entries_at sh.s j) 4)) kind_is ∙ ap (λ (x : ℕ). x + 4 + 24 * num msg x 4) (sym a)

  pub vote_counted : at + 4 ≤ length msg
  vote_counted = omega (arith, whole)

  pub vote_sender : Sent sh b k
  unfolding row_of
  vote_sender =
      let f = (told_sender sh.n sh.s m msg told_so (ap (λ (x : Message). from_outside (tag_of x)) e)).1 in
      record { stands = r.stands; sender = subst (λ (x : Header). x.from_replica < sh.n) header_is f }

  formed_so : formed sh.n sh.s w ≡ true
  formed_so = told_formed sh.n sh.s m msg told_so bs

  pub vote_brought : num msg at 4 ≤ sh.c → Brought sh b msg h.view k
  unfolding row_of
  vote_brought l =
      let p = vote_parts sh.n sh.s w formed_so (told_so.kind ∙ kind_is) in
      let x : normal ≡ wires.number w 0 = sym (ap (λ (v : Vote). v.normal) vote_is) in
      let y : sync ≡ wires.number w 1 = sym (ap (λ (v : Vote). v.sync) vote_is) in
      let wide = view_wide sh.n sh.s w formed_so in
      let good : good_log sh.s st.site.group (sent_log msg at) ≡ true = rw (← entries_are) (ready_log sh b msg m r bs (ap (λ (z : Message). with_log (tag_of z)) e)) in
      record {
        given = record { sent = vote_sender; long = omega (arith, whole); room = l; good = good; within = omega (arith, p.1, entries_long) };
        normal = omega (arith, p.0);
        wide = omega (arith, view_is, wide);
        views = views_stand sh b msg m r kind_known kind_views;
        status = λ f. is_right.status (entering_is ∙ f);
        same_view = λ f. sym view_is ∙ is_right.view (entering_is ∙ f);
        same_views = λ f. sym (views_said sh b msg m r kind_known kind_views) ∙ is_right.g_vec (entering_is ∙ f);
      }

  -- ---- what is kept already

  other_sender : k.sender ≡ st.site.replica → ⊥
  other_sender q = is_right.other (from_is ∙ q)

  abbrev own : List (Option Vote)
  own = set (replicate sh.n none) st.site.replica (some (own_vote st))

  own_other : get_or own k.sender none ≡ none
  own_other = get_or-set_other (replicate sh.n none) st.site.replica k.sender (some (own_vote st)) none other_sender ∙ get_or-replicate sh.n k.sender none none vote_sender.sender

  entered_votes : k.entering ≡ true → here.change.votes ≡ own
  unfolding came_to pick
  entered_votes f = rw f

  same_votes : k.entering ≡ false → here.change.votes ≡ st.change.votes
  unfolding came_to pick
  same_votes f = rw f

  second_is : kept_already sh here k.sender (said msg k) ≡ is_second sh b k
  second_is =
      by_cases k.entering
      (λ f. rw (entered_votes f, own_other, f))
      (λ f. rw (same_votes f, f))

  places_long : length here.change.votes ≡ sh.n
  places_long =
      by_cases k.entering
      (λ f. ap length (entered_votes f) ∙ length-set (replicate sh.n none) st.site.replica (some (own_vote st)) ∙ length-replicate {A = Option Vote} sh.n none)
      (λ f. ap length (same_votes f) ∙ (stands_fits r.stands).vote_places)

  held_here : held here.change.votes + 1 ≡ count_with sh b k
  held_here = by_cases k.entering entering staying
    where
      entering : k.entering ≡ true → held here.change.votes + 1 ≡ count_with sh b k
      entering f =
          let x : st.site.replica < length (replicate {A = Option Vote} sh.n none) = omega (arith, length-replicate {A = Option Vote} sh.n none, replica_below r.stands) in
          let y : is_some (get_or (replicate {A = Option Vote} sh.n none) st.site.replica none) ≡ false = ap is_some (get_or-replicate {A = Option Vote} sh.n st.site.replica none none (replica_below r.stands)) in
          ap (λ (vs : List (Option Vote)). held vs + 1) (entered_votes f) ∙ ap (λ (i : ℕ). i + 1) (held_more (replicate sh.n none) st.site.replica (own_vote st) x y ∙ ap (λ (i : ℕ). i + 1) (held_none sh.n)) ∙ sym (pick_true k.entering 2 (held st.change.votes + 1) f)

      staying : k.entering ≡ false → held here.change.votes + 1 ≡ count_with sh b k
      staying f = ap (λ (vs : List (Option Vote)). held vs + 1) (same_votes f) ∙ sym (pick_false k.entering 2 (held st.change.votes + 1) f)

  -- ---- the ways

  module _ (t : Bool) (q : t ≡ is_second sh b k) where
    pub vote_second : t ≡ true → leaves 7 b out ≡ outcome
    vote_second f = sym (by_rule (refused 7) (second sh here k.sender (said msg k) (second_is ∙ sym q ∙ f)) ∙ closes_refused sh b out 7)

    module _ (f : t ≡ false) (number : ℕ) (n : number ≡ num msg at 4) where
      first : kept_already sh here k.sender (said msg k) ≡ false
      first = second_is ∙ sym q ∙ f

      log_long : length (sent_log msg at) ≡ number
      log_long = ap length (sym entries_are) ∙ entries_long ∙ sym n

      pub vote_past : sh.c < number → leaves 8 b out ≡ outcome
      vote_past l = sym (by_rule (refused 8) (past sh here k.sender (said msg k) first (omega (arith, log_long))) ∙ closes_refused sh b out 8)

      module _ (l : number ≤ sh.c) where
        pub vote_kept : Brought sh b msg h.view k
        vote_kept = vote_brought (omega arith)

        module _ (total most : ℕ) (c : total ≡ count_with sh b k) (p : most ≡ majority sh.n) where
          come : Comes sh b msg h.view k here
          come = comes sh b msg h.view k vote_kept bs (omega (arith, view_is, view_wide sh.n sh.s w formed_so))

          count_is : total ≡ held (with_it sh here k.sender (said msg k))
          count_is =
              let x : k.sender < length here.change.votes = omega (arith, places_long, vote_sender.sender) in
              c ∙ sym held_here ∙ sym (held_more here.change.votes k.sender (said msg k) x first)

          pub vote_few : (b' : List ℕ) → total < most → b' ≡ image sh (kept_in sh b msg h.view k) → quiet b' out ≡ outcome
          vote_few b' u i =
              let next = changing here 2 (with_it sh here k.sender (said msg k)) here.change.draft here.change.boundary here.change.replies in
              let z : next ≡ kept_in sh b msg h.view k = rw (come.votes, ← come.status) in
              sym (by_rule (done next []) (few sh here k.sender (said msg k) first (omega (arith, log_long)) (omega (arith, count_is))) ∙ closes_quiet sh b out next ∙ ap (λ (x : State). quiet (image sh x) out) z ∙ ap (λ (x : List ℕ). quiet x out) (sym i))

          pub vote_enough : (left : Left) → most ≤ total → left ≡ closes sh b out (concludes sh here (votes_in sh b msg k)) → left ≡ outcome
          vote_enough left u z =
              z ∙ ap (λ (vs : List (Option Vote)). closes sh b out (concludes sh here vs)) (sym come.votes)
              ∙ sym (by_rule (concludes sh here (with_it sh here k.sender (said msg k))) (enough sh here k.sender (said msg k) first (omega (arith, log_long)) (omega (arith, count_is))))
