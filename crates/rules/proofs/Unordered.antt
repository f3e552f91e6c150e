-- The step as it was before early was kept in order; and that the two go through the same states, early and late seen as sets, with the same answers and outgoing
-- messages. Late has to be seen as a set too: what falls to it comes in early's order. Assumes nothing.
use Prim.Native.Nat.{ℕ, suc}
use mathlib.Core.Path.{◌≡◌, refl, sym, subst, ap, ap₂, ◌∙◌}
use mathlib.Core.Bool.{Bool, true, false, ◌&&◌, ◌||◌, not}
use mathlib.Core.List.{List, [], ◌∷◌, ◌++◌, append-nil, map}
use native.Mathlib.Omega.{arith}
use lib.ListN.{length}
use lib.Dec.{eqb, ltb, leb}
use borrow.Author.Tests.{leb-false, lt-leb}
use Rattle.octets.proofs.Codecs.{All}
use Rattle.rules.specs.Choice.{pick, keep, leading, is_some}
use Rattle.rules.specs.Group.{holds, shape_fits}
use Rattle.rules.specs.Read.{formed}
use Rattle.rules.specs.Entry.{latest, same_txn, among, place, ordered, same_key, before}
use Rattle.rules.specs.Log.{held_of, length_of, last_of, appended, follows_last, leader_stamp, raised}
use Rattle.rules.specs.Kind.{row_of, to_outside, Statuses, any_status, one_of, if_equal}
use Rattle.rules.specs.declared.Sender.{Sender}
use Rattle.rules.specs.declared.Sender.TheVariants.{Outsider, OwnLeader, OwnReplica, OtherLeader, AnyReplica}
use Rattle.rules.specs.declared.Receiver.{Receiver}
use Rattle.rules.specs.declared.Receiver.TheVariants.{ALeader, AFollower, Anyone, Outsiders}
use Rattle.rules.specs.declared.Views.{Views}
use Rattle.rules.specs.declared.Views.TheVariants.{AnyView, Greater, GreaterOrEqual, BothEqual}
use Rattle.rules.specs.Wire.{Wire, first_entry, number, log_in}
use Rattle.rules.specs.State.{State, Note, with_waiting, leads, noted, agreed, good}
use Rattle.rules.specs.Early.{keep_note, lifted, due_of, falls_late}
use Rattle.rules.specs.Step.{Outcome, refused, done, within, sends, send_leader, other_groups, known_to, at_due, entered, newer, here, view_fits, status_fits, receiver_fits, sender_fits, view_right, status_right, role_right}
use Rattle.rules.specs.Step.{fitting, released, placed_reply, placed_replies, unplaced_reply, leader_tells, leader_takes, follower_takes, on_transaction, on_note, leader_releases, follower_releases, on_tick, on_replica_sync, on_sync_status, on_commit}
use Rattle.rules.specs.Step.{on_change_view, starts, verifies, keeps_vote, vote_in, on_vote, on_start_view, on_verify_request, on_verify_reply, handle, step}
use Rattle.rules.specs.declared.Entry.{Entry}
use Rattle.rules.specs.declared.Shape.{Shape}
use Rattle.rules.proofs.Order.{Perm, perm_none, perm_next, perm_swap, perm_then, perm_same, perm_back, perm_shift, perm_behind, perm_front, perm_length, perm_any, perm_pairs, Sorted, before_asym, before_stamps, key_txn, place_perm, ordered_unique}
use Rattle.rules.proofs.Choice.{Pairs, all_map, pairs_keep, pairs_map, pairs_front, pairs_back, fails, clash}
use Rattle.rules.proofs.Logs.{Apart, apart_turns, rise_pairs, distinct_pairs}
use Rattle.rules.proofs.Conjuncts.{good_is}
use Rattle.rules.proofs.Kept.{Lasting, lasts}
use Rattle.rules.proofs.KeptNotes.{in_place, lifted_perm}

-- ---- the rules before: an entry is put behind the others, one that is agreed is lifted where it stands, and what is due is ordered then

abbrev pub put_last : Entry → List Entry → List Entry
put_last e early = early ++ (e ∷ [])

abbrev pub due_ordered : ℕ → List Entry → List Entry
due_ordered time early = ordered (keep (λ e. leb e.stamp time) early)

abbrev pub leader_took : Shape → State → Entry → Outcome
leader_took sh st e =
    let notes = keep_note sh e st.site.group e.stamp st.waiting.notes in
    within sh.c (suc (length st.waiting.early))
    (within sh.c (length notes)
    (done (with_waiting (in_place sh notes e (put_last e st.waiting.early)) st.waiting.late notes st)
    (sends (λ j. send_leader sh st 3 j [] (e ∷ [])) (other_groups sh st (holds e.mask)))))

abbrev pub follower_took : Shape → State → Entry → Outcome
follower_took sh st e =
    pick (follows_last st.logged.log e)
    (within sh.c (suc (length st.waiting.early)) (done (with_waiting (put_last e st.waiting.early) st.waiting.late st.waiting.notes st) []))
    (within sh.c (suc (length st.waiting.late)) (done (with_waiting st.waiting.early (st.waiting.late ++ (e ∷ [])) st.waiting.notes st) []))

abbrev pub took_transaction : Shape → State → Wire → Outcome
took_transaction sh st w =
    pick (known_to st (first_entry w)) (refused 7)
    (pick (leads sh st)
    (within latest (leader_stamp st.logged.log (at_due w)) (leader_took sh st (raised st.logged.log (at_due w))))
    (follower_took sh st (at_due w)))

abbrev pub took_note : Shape → State → Wire → Outcome
took_note sh st w =
    let e = first_entry w in
    let notes = keep_note sh e w.from_group e.stamp st.waiting.notes in
    pick (among (held_of st.logged.log) e || is_some (noted st.waiting.notes e w.from_group)) (refused 7)
    (within sh.c (length notes) (done (with_waiting (in_place sh notes e st.waiting.early) st.waiting.late notes st) []))

abbrev pub ticked : Shape → State → Wire → Outcome
ticked sh st w =
    let time = number w 0 in
    let ds = due_ordered time st.waiting.early in
    pick (ltb time st.clock) (refused 7)
    (pick (leads sh st) (leader_releases sh st time ds (leading (agreed sh st.waiting.notes) ds))
    (follower_releases sh st time ds))

abbrev pub handled : ℕ → Shape → State → Wire → Outcome
handled k sh st w =
    pick (eqb k 1) (took_transaction sh st w)
    (pick (eqb k 3) (took_note sh st w)
    (pick (eqb k 4) (on_replica_sync sh st w)
    (pick (eqb k 7) (on_change_view sh st w)
    (pick (eqb k 8) (on_vote sh st w)
    (pick (eqb k 9) (on_start_view sh st w)
    (pick (eqb k 10) (on_sync_status sh st w)
    (pick (eqb k 11) (on_commit sh st w)
    (pick (eqb k 18) (on_verify_request sh st w)
    (pick (eqb k 19) (on_verify_reply sh st w)
    (pick (eqb k 23) (ticked sh st w)
    (refused 2)))))))))))

abbrev pub step_before : Shape → State → Wire → Outcome
step_before sh st w =
    pick (to_outside w.kind) (refused 2)
    (pick (here st w)
    (pick (view_right w.kind st w)
    (pick (status_right w.kind st w)
    (pick (role_right w.kind sh st w)
    (handled w.kind sh st w)
    (refused 6)) (refused 5)) (refused 4)) (refused 3))

-- ---- states and outcomes that are the same but for the order of early and of late

pub record Alike (a b : State) : Type 0 where
  pub early : Perm a.waiting.early b.waiting.early
  pub late : Perm a.waiting.late b.waiting.late
  pub rest : with_waiting [] [] a.waiting.notes a ≡ with_waiting [] [] b.waiting.notes b

pub data Agree : Outcome → Outcome → Type 0 where
  both_refused : (n : ℕ) → Agree (refused n) (refused n)
  both_done : {a b : State} (ms : List Wire) → Alike a b → Agree (done a ms) (done b ms)

-- by a test that both make
by_both : (t : Bool) {a b c d : Outcome} → Agree a c → Agree b d → Agree (pick t a b) (pick t c d)
unfolding pick
by_both true p q = p
by_both false p q = q

-- or by two that say the same
by_equal : {t u : Bool} → t ≡ u → {a b c d : Outcome} → Agree a c → Agree b d → Agree (pick t a b) (pick u c d)
by_equal {t} {u} e {a} {b} {c} {d} p q = subst (λ (x : Bool). Agree (pick t a b) (pick x c d)) e (by_both t p q)

alike_same : (a : State) → Alike a a
alike_same a = record { early = perm_same _; late = perm_same _; rest = refl }

-- an outcome that is the same
agree_same : (o : Outcome) → Agree o o
agree_same (refused n) = both_refused n
agree_same (done a ms) = both_done ms (alike_same a)

-- ---- permutations

module _ {A : Type 0} where
  perm_map : (f : A → A) {xs ys : List A} → Perm xs ys → Perm (map f xs) (map f ys)
  perm_map f perm_none = perm_none
  perm_map f (perm_next x h) = perm_next (f x) (perm_map f h)
  perm_map f (perm_swap x y xs) = perm_swap (f x) (f y) (map f xs)
  perm_map f (perm_then h k) = perm_then (perm_map f h) (perm_map f k)

  perm_keep : (p : A → Bool) {xs ys : List A} → Perm xs ys → Perm (keep p xs) (keep p ys)
  unfolding keep pick
  perm_keep p perm_none = perm_none
  perm_keep p (perm_next x {xs = xs} {ys = ys} h) = go (p x) (perm_keep p h)
    where
      go : (b : Bool) → Perm (keep p xs) (keep p ys) → Perm (pick b (x ∷ keep p xs) (keep p xs)) (pick b (x ∷ keep p ys) (keep p ys))
      go true k = perm_next x k
      go false k = k
  perm_keep p (perm_swap x y xs) = go (p x) (p y)
    where
      go : (b c : Bool) → Perm (pick b (x ∷ pick c (y ∷ keep p xs) (keep p xs)) (pick c (y ∷ keep p xs) (keep p xs)))
          (pick c (y ∷ pick b (x ∷ keep p xs) (keep p xs)) (pick b (x ∷ keep p xs) (keep p xs)))
      go true true = perm_swap x y (keep p xs)
      go true false = perm_same _
      go false true = perm_same _
      go false false = perm_same _
  perm_keep p (perm_then h k) = perm_then (perm_keep p h) (perm_keep p k)

  perm_both : {xs ys us vs : List A} → Perm xs ys → Perm us vs → Perm (xs ++ us) (ys ++ vs)
  perm_both {ys = ys} {us = us} h k = perm_then (perm_front us h) (perm_behind ys k)

  -- an element behind the others
  perm_last : (x : A) (xs : List A) → Perm (xs ++ (x ∷ [])) (x ∷ xs)
  perm_last x xs = perm_back (rw append-nil at (perm_shift x xs []))

-- ---- the handlers, on a state and on the same with early and late permuted

module _ (sh : Shape) (a : State) (es ls : List Entry) (pe : Perm a.waiting.early es) (pl : Perm a.waiting.late ls) where
  abbrev b : State
  b = with_waiting es ls a.waiting.notes a

  permuted : Alike a b
  permuted = record { early = pe; late = pl; rest = refl }

  same_votes : (r : ℕ) (w : Wire) → Agree (keeps_vote sh a r (vote_in w)) (keeps_vote sh b r (vote_in w))
  unfolding keeps_vote starts verifies
  same_votes r w =
      by_both _ (both_refused 7)
      (by_both _
      (by_both _ (both_done _ (record { early = pe; late = pl; rest = refl }))
      (by_both _ (agree_same _) (by_both _ (both_done _ (record { early = pe; late = pl; rest = refl })) (both_refused 8))))
      (both_refused 8))

  same_change : (w : Wire) → Agree (on_change_view sh a w) (on_change_view sh b w)
  unfolding on_change_view
  same_change w = agree_same _

  same_start : (w : Wire) → Agree (on_start_view sh a w) (on_start_view sh b w)
  unfolding on_start_view
  same_start w = agree_same _

  same_status : (w : Wire) → Agree (on_sync_status sh a w) (on_sync_status sh b w)
  unfolding on_sync_status
  same_status w = by_both _ (both_refused 7) (both_done _ (record { early = pe; late = pl; rest = refl }))

  same_commit : (w : Wire) → Agree (on_commit sh a w) (on_commit sh b w)
  unfolding on_commit
  same_commit w = by_both _ (both_done _ (record { early = pe; late = pl; rest = refl })) (both_refused 7)

  same_request : (w : Wire) → Agree (on_verify_request sh a w) (on_verify_request sh b w)
  unfolding on_verify_request
  same_request w = both_done _ permuted

  same_reply : (w : Wire) → Agree (on_verify_reply sh a w) (on_verify_reply sh b w)
  unfolding on_verify_reply starts
  same_reply w =
      by_both _ (both_refused 7)
      (by_both _ (by_both _ (both_done _ (record { early = pe; late = pl; rest = refl })) (agree_same _)) (both_refused 8))

  same_sync : (w : Wire) → Agree (on_replica_sync sh a w) (on_replica_sync sh b w)
  unfolding on_replica_sync
  same_sync w =
      let log = log_in w in
      let falls : Perm (falls_late log a.waiting.early) (falls_late log es) = perm_keep _ (perm_keep _ pe) in
      let late = perm_both (perm_keep (λ e. not (among (held_of log) e)) pl) falls in
      by_both _ (both_refused 7)
      (by_both _
      (by_equal (ap (λ (n : ℕ). leb n sh.c) (perm_length late))
      (both_done _ (record { early = perm_keep _ (perm_keep _ pe); late = late; rest = refl })) (both_refused 8))
      (both_refused 8))

  -- ---- 1 and 3

  same_known : (e : Entry) → known_to a e ≡ known_to b e
  same_known e = rw (perm_any (same_txn e) pe, perm_any (same_txn e) pl)

  -- one more behind the others, and one more in its place
  put : (e : Entry) → Perm (put_last e a.waiting.early) (place e es)
  put e = perm_then (perm_last e a.waiting.early) (perm_then (perm_next e pe) (place_perm e es))

  lift : (xs : List Note) (e : Entry) {us vs : List Entry} → Perm us vs → Perm (in_place sh xs e us) (lifted sh xs e vs)
  lift xs e {vs = vs} h = perm_then (perm_map _ h) (lifted_perm sh xs e vs)

  longer : {us vs : List Entry} → Perm us vs → leb (suc (length us)) sh.c ≡ leb (suc (length vs)) sh.c
  longer h = ap (λ (n : ℕ). leb (suc n) sh.c) (perm_length h)

  same_leader : (e : Entry) → Agree (leader_took sh a e) (leader_takes sh b e)
  unfolding leader_takes
  same_leader e =
      by_equal (longer pe)
      (by_both _ (both_done _ (record { early = lift _ e (put e); late = pl; rest = refl })) (both_refused 8))
      (both_refused 8)

  same_follower : (e : Entry) → Agree (follower_took sh a e) (follower_takes sh b e)
  unfolding follower_takes
  same_follower e =
      by_both _
      (by_equal (longer pe) (both_done _ (record { early = put e; late = pl; rest = refl })) (both_refused 8))
      (by_equal (longer pl) (both_done _ (record { early = pe; late = perm_front (e ∷ []) pl; rest = refl })) (both_refused 8))

  same_transaction : (w : Wire) → Agree (took_transaction sh a w) (on_transaction sh b w)
  unfolding on_transaction
  same_transaction w =
      by_equal (same_known (first_entry w)) (both_refused 7)
      (by_both _ (by_both _ (same_leader _) (both_refused 8)) (same_follower _))

  same_note : (w : Wire) → Agree (took_note sh a w) (on_note sh b w)
  unfolding on_note
  same_note w = by_both _ (both_refused 7) (by_both _ (both_done _ (record { early = lift _ (first_entry w) pe; late = pl; rest = refl })) (both_refused 8))

  -- ---- 23

  same_released : (time sync : ℕ) (ds : List Entry) → Alike (released a time sync ds) (released b time sync ds)
  same_released time sync ds = record { early = perm_keep _ pe; late = pl; rest = refl }

  same_told : (xs ds : List Entry) → leader_tells sh a xs ds ≡ leader_tells sh b xs ds
  unfolding leader_tells unplaced_reply
  same_told (x ∷ xs) ds = refl
  same_told [] [] = refl
  same_told [] (d ∷ ds) = refl

  same_leads : (time : ℕ) (ds run : List Entry) → Agree (leader_releases sh a time ds run) (leader_releases sh b time ds run)
  unfolding leader_releases placed_reply
  same_leads time ds run =
      let xs = fitting sh a run in
      let sync = length_of (appended a.logged.log xs) in
      let ms = placed_replies a xs ++ leader_tells sh a xs ds in
      by_both _ (both_refused 8)
      (subst (λ (ns : List Wire). Agree (done (released a time sync xs) ms) (done (released b time sync xs) (placed_replies a xs ++ ns)))
      (same_told xs ds) (both_done ms (same_released time sync xs)))

  same_follows : (time : ℕ) (ds : List Entry) → Agree (follower_releases sh a time ds) (follower_releases sh b time ds)
  unfolding follower_releases placed_reply
  same_follows time ds = by_both _ (both_refused 8) (both_done _ (same_released time _ _))

  -- sorted entries that are due come first
  due_first : (time : ℕ) (ds : List Entry) → Sorted ds → keep (λ e. leb e.stamp time) ds ≡ leading (λ e. leb e.stamp time) ds
  unfolding keep leading pick
  due_first time [] s = refl
  due_first time (d ∷ ds) s = go (leb d.stamp time) refl (due_first time ds s.1)
    where
      soon : Entry → Bool
      soon e = leb e.stamp time

      none : (xs : List Entry) → All (λ x. soon x ≡ false) xs → keep soon xs ≡ []
      none [] h = refl
      none (x ∷ xs) h = rw h.0 (none xs h.1)

      go : (t : Bool) → leb d.stamp time ≡ t → keep soon ds ≡ leading soon ds → pick t (d ∷ keep soon ds) (keep soon ds) ≡ pick t (d ∷ leading soon ds) []
      go true e h = ap (λ (l : List Entry). d ∷ l) h
      go false e h =
          none ds (all_map (λ x k. let l = before_stamps d x k in let m = leb-false d.stamp time e in lt-leb x.stamp time (omega arith)) ds s.0)

  module _ (sorted : Sorted es) (once : Pairs Apart a.waiting.early) where
    same_due : (time : ℕ) → due_ordered time a.waiting.early ≡ due_of time es
    same_due time =
        let p : Entry → Bool = λ e. leb e.stamp time in
        sym (ordered_unique (keep p a.waiting.early) (keep p es) (perm_keep p pe) (pairs_keep p (λ d e. before e d ≡ false) es sorted)
        (pairs_map (λ d e h. fails (same_key d e) (λ t. clash (same_txn d e) (key_txn d e t) h)) (keep p a.waiting.early) (pairs_keep p Apart a.waiting.early once)))
        ∙ due_first time es sorted

    same_tick : (w : Wire) → Agree (ticked sh a w) (on_tick sh b w)
    unfolding on_tick
    same_tick w =
        subst (λ (ds : List Entry). Agree (ticked sh a w)
        (pick (ltb (number w 0) b.clock) (refused 7)
        (pick (leads sh b) (leader_releases sh b (number w 0) ds (leading (agreed sh b.waiting.notes) ds)) (follower_releases sh b (number w 0) ds))))
        (same_due (number w 0))
        (by_both _ (both_refused 7) (by_both _ (same_leads _ _ _) (same_follows _ _)))

-- a greater vote enters its view first
same_vote : (sh : Shape) (a : State) (es ls : List Entry) → Perm a.waiting.early es → Perm a.waiting.late ls → (w : Wire)
    → Agree (on_vote sh a w) (on_vote sh (with_waiting es ls a.waiting.notes a) w)
unfolding on_vote pick
same_vote sh a es ls pe pl w = go (newer a w)
  where
    go : (t : Bool) → Agree (keeps_vote sh (pick t (entered sh a w) a) w.from_replica (vote_in w))
        (keeps_vote sh (pick t (entered sh (with_waiting es ls a.waiting.notes a) w) (with_waiting es ls a.waiting.notes a)) w.from_replica (vote_in w))
    go true = agree_same _
    go false = same_votes sh a es ls pe pl w.from_replica w

-- ---- the step

-- the second state is the first with early and late permuted
turned : (a b : State) → Alike a b → with_waiting b.waiting.early b.waiting.late a.waiting.notes a ≡ b
turned a b h = ap (λ (x : State). with_waiting b.waiting.early b.waiting.late x.waiting.notes x) h.rest

module _ (sh : Shape) (a : State) (es ls : List Entry) (pe : Perm a.waiting.early es) (pl : Perm a.waiting.late ls)
    (sorted : Sorted es) (once : Pairs Apart a.waiting.early) where
  same_handled : (k : ℕ) (w : Wire) → Agree (handled k sh a w) (handle k sh (with_waiting es ls a.waiting.notes a) w)
  unfolding handle
  same_handled k w =
      by_both _ (same_transaction sh a es ls pe pl w)
      (by_both _ (same_note sh a es ls pe pl w)
      (by_both _ (same_sync sh a es ls pe pl w)
      (by_both _ (same_change sh a es ls pe pl w)
      (by_both _ (same_vote sh a es ls pe pl w)
      (by_both _ (same_start sh a es ls pe pl w)
      (by_both _ (same_status sh a es ls pe pl w)
      (by_both _ (same_commit sh a es ls pe pl w)
      (by_both _ (same_request sh a es ls pe pl w)
      (by_both _ (same_reply sh a es ls pe pl w)
      (by_both _ (same_tick sh a es ls pe pl sorted once w)
      (both_refused 2)))))))))))

  abbrev there : State
  there = with_waiting es ls a.waiting.notes a

  same_view : (w : Wire) (v : Views) → view_fits v a w ≡ view_fits v there w
  same_view w AnyView = refl
  same_view w Greater = refl
  same_view w GreaterOrEqual = refl
  same_view w BothEqual = refl

  same_statuses : (w : Wire) (s : Statuses) → status_fits s a w ≡ status_fits s there w
  same_statuses w any_status = refl
  same_statuses w (one_of xs) = refl
  same_statuses w (if_equal xs) = refl

  same_receiver : (w : Wire) (r : Receiver) → receiver_fits r sh a w ≡ receiver_fits r sh there w
  same_receiver w ALeader = refl
  same_receiver w AFollower = refl
  same_receiver w Anyone = refl
  same_receiver w Outsiders = refl

  same_sender : (w : Wire) (s : Sender) → sender_fits s sh a w ≡ sender_fits s sh there w
  same_sender w Outsider = refl
  same_sender w OwnLeader = refl
  same_sender w OwnReplica = refl
  same_sender w OtherLeader = refl
  same_sender w AnyReplica = refl

  same_admitted : (w : Wire) → Agree (step_before sh a w) (step sh (with_waiting es ls a.waiting.notes a) w)
  unfolding step view_right status_right role_right
  same_admitted w =
      let row = row_of w.kind in
      by_both _ (both_refused 2)
      (by_both _
      (by_equal (same_view w row.views)
      (by_equal (same_statuses w row.status)
      (by_equal (ap₂ ◌&&◌ (same_receiver w row.receiver) (same_sender w row.sender))
      (same_handled w.kind w)
      (both_refused 6)) (both_refused 5)) (both_refused 4)) (both_refused 3))

-- From a good state, and from any that is the same but for the order of early and late, every message is answered alike: with the same number, or with the same
-- messages and two states that are again the same but for that order.
pub same_step : (sh : Shape) (a b : State) → Alike a b → good sh b ≡ true → (w : Wire) → Agree (step_before sh a w) (step sh b w)
same_step sh a b h g w =
    let i = (good_is sh b g).buffers in
    let es = b.waiting.early in
    let rises = (rise_pairs (last_of b.logged.log) es i.rises).1 in
    let once = pairs_front Apart es b.waiting.late (pairs_back Apart b.logged.log (es ++ b.waiting.late) (distinct_pairs _ i.once)) in
    subst (λ (x : State). Agree (step_before sh a w) (step sh x w)) (turned a b h)
    (same_admitted sh a es b.waiting.late h.early h.late (pairs_map before_asym es rises) (perm_pairs Apart apart_turns (perm_back h.early) once) w)

-- ---- runs of one site

-- the state after an outcome, and what is said: the number, and the messages
abbrev next : State → Outcome → State
next a (refused n) = a
next a (done b ms) = b

abbrev said : Outcome → ℕ × List Wire
said (refused n) = (n, [])
said (done b ms) = (0, ms)

-- after messages one after the other, by the one step or the other
unfoldable pub goes : (State → Wire → Outcome) → State → List Wire → State
goes f a [] = a
goes f a (w ∷ ws) = goes f (next a (f a w)) ws

unfoldable pub says : (State → Wire → Outcome) → State → List Wire → List (ℕ × List Wire)
says f a [] = []
says f a (w ∷ ws) = said (f a w) ∷ says f (next a (f a w)) ws

agree_next : (a b : State) (o p : Outcome) → Alike a b → Agree o p → Alike (next a o) (next b p) × (said o ≡ said p)
agree_next a b _ _ h (both_refused n) = (h, refl)
agree_next a b _ _ h (both_done ms k) = (k, refl)

next_lasts : (sh : Shape) → shape_fits sh ≡ true → (b : State) → Lasting sh b → (w : Wire) → formed sh.n sh.s w ≡ true → Lasting sh (next b (step sh b w))
next_lasts sh fits b l w f = go (step sh b w) refl
  where
    go : (o : Outcome) → step sh b w ≡ o → Lasting sh (next b o)
    go (refused n) e = l
    go (done c ms) e = lasts sh fits b l w f c ms e

-- From states that are the same but for the order of early and late, and of which the second is good, any well-formed messages lead through states that are the same
-- but for that order, with the same numbers and messages.
pub same_run : (sh : Shape) → shape_fits sh ≡ true → (a b : State) → Alike a b → Lasting sh b → (ws : List Wire) → All (λ w. formed sh.n sh.s w ≡ true) ws
    → Alike (goes (step_before sh) a ws) (goes (step sh) b ws) × (says (step_before sh) a ws ≡ says (step sh) b ws)
unfolding goes says
same_run sh fits a b h l [] f = (h, refl)
same_run sh fits a b h l (w ∷ ws) f =
    let k = agree_next a b (step_before sh a w) (step sh b w) h (same_step sh a b h l.good w) in
    let r = same_run sh fits (next a (step_before sh a w)) (next b (step sh b w)) k.0 (next_lasts sh fits b l w f.0) ws f.1 in
    (r.0, ap₂ (λ (x : ℕ × List Wire) (xs : List (ℕ × List Wire)). x ∷ xs) k.1 r.1)
