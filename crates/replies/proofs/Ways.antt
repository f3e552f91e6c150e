-- The ways through the handler of kind 19, and through the merge and the start that the last reply brings. Assumes nothing.
use Prim.Native.Nat.{ℕ, ◌+◌, ◌-◌, ◌*◌, ◌≤◌, ◌<◌}
use mathlib.Core.Path.{◌≡◌, refl, sym, ap, ◌∙◌}
use mathlib.Core.Bool.{Bool, true, false, true≢false}
use mathlib.Core.Option.{Option, none, some}
use mathlib.Core.List.{List, []}
use native.Mathlib.Omega.{arith}
use lib.ListN.{length, get_or, set}
use lib.Dec.{eqb, leb}
use borrow.Author.Tests.{eqb-true, lt-ltb, le-ltb, le-leb, lt-leb}
use Rattle.octets.specs.Bytes.{num, splice, items}
use Rattle.octets.proofs.Codecs.{length_items}
use Rattle.rules.specs.Choice.{pick, count, is_some, any}
use Rattle.rules.specs.Wire.{Wire, tag_of, header_in}
use Rattle.rules.specs.Kind.{bare, known, from_outside, row_of}
use Rattle.rules.specs.Read.{wire_in, entries_at, length_for, entry_at}
use Rattle.rules.specs.State.{State, with_change, held}
use Rattle.rules.specs.Image.{reply_length, reply_bytes, reply_at, table_at, image, state_of, at_replies}
use Rattle.rules.specs.Merge.{merged}
use Rattle.rules.specs.Step.{Outcome, refused, done, view_right, status_right, changing, starts, on_verify_reply}
use Rattle.rules.specs.Bytes.{Left, leaves, closes}
use Rattle.rules.specs.declared.Entry.{Entry}
use Rattle.rules.specs.declared.Header.{Header}
use Rattle.rules.specs.declared.Shape.{Shape}
use Rattle.rules.specs.declared.Message.{Message}
use Rattle.rules.specs.declared.Message.TheVariants.{VerifyReply}
use Rattle.rules.proofs.Choice.{and_right, pick_true, pick_false}
use Rattle.rules.proofs.Tests.{same_true}
use Rattle.entries.specs.Table.{Holds, Table}
use Rattle.entries.proofs.Table.{decoded, is_table}
use Rattle.places.specs.Layout.{start_of}
use Rattle.places.proofs.Sections.{stands_fits, stands_laid, stands_midway}
use Rattle.places.proofs.Kept.{even_replies, put_reply, reply_at_lem}
use Rattle.handler.specs.Handler.{Ready, handled}
use Rattle.handler.proofs.Told.{Told, told_length, told_entries, told_sender, ready_told}
use Rattle.handler.proofs.Closes.{quiet, closes_refused, closes_quiet, handled_own}
use Rattle.merge.specs.Taken.{Taken}
use Rattle.merge.specs.Merged.{merged_with}
use Rattle.views.specs.Views.{views_of}
use Rattle.changes.specs.Changes.{led_by}
use Rattle.changes.proofs.Said.{views_said, views_stand}
use Rattle.replies.specs.Replies.{starts_with}
use Rattle.replies.proofs.Kept.{held_more, held_counted}

-- ---- the start with a merged draft

module _ (sh : Shape) (b out g_vec : List ℕ) (es : List Entry) (r : Bool) (x : List ℕ) (k : Taken sh.c es r x) where
  -- it is too long
  pub merged_past : r ≡ false → leaves 8 b out ≡ closes sh b out (starts_with sh b g_vec es)
  merged_past f = sym (ap (closes sh b out) (pick_false (leb (length es) sh.c) _ _ (lt-leb (length es) sh.c (k.full f))) ∙ closes_refused sh b out 8)

  -- or it stands in the table
  module _ (f : r ≡ true) where
    stands_there : Holds sh.c es x
    stands_there = k.held f

    pub merged_table : Table sh.c x
    merged_table = is_table sh.c es x stands_there

    pub merged_starts : (view : ℕ) → view ≡ (state_of sh b).view.g_view → (l : Left) → l ≡ closes sh b out (led_by sh (state_of sh b) view g_vec (table_at sh.c x 0)) → l ≡ closes sh b out (starts_with sh b g_vec es)
    merged_starts view v l w =
        w ∙ rw (v, decoded sh.c es x stands_there) (ap (closes sh b out) (sym (pick_true (leb (length es) sh.c) _ _ (le-leb (length es) sh.c stands_there.room))))

none_is : {A : Type 0} (o : Option A) → is_some o ≡ false → o ≡ none
none_is none e = refl
none_is (some x) e = absurd (true≢false e)

-- ---- the rule

module _ (sh : Shape) (st : State) (w : Wire) (from : ℕ) (es : List Entry) (f : w.from_group ≡ from) (e : w.entries ≡ es) where
  abbrev replies : List (Option (List Entry))
  replies = set st.change.replies from (some es)

  second : is_some (get_or st.change.replies from none) ≡ true → on_verify_reply sh st w ≡ refused 7
  unfolding on_verify_reply pick
  second h = rw (f, h)

  module _ (h : is_some (get_or st.change.replies from none) ≡ false) where
    many : sh.c < length es → on_verify_reply sh st w ≡ refused 8
    unfolding on_verify_reply pick
    many g = rw (f, e, h, lt-leb (length es) sh.c g)

    module _ (g : length es ≤ sh.c) where
      waits : held replies < sh.s - 1 → on_verify_reply sh st w ≡ done (changing st 3 st.change.votes st.change.draft st.change.boundary replies) []
      unfolding on_verify_reply pick
      waits k = rw (f, e, h, le-leb (length es) sh.c g, lt-ltb (held replies) (sh.s - 1) k)

      last : sh.s - 1 ≤ held replies → on_verify_reply sh st w ≡ starts sh st (merged st.change.draft replies)
      unfolding on_verify_reply pick
      last k = rw (f, e, h, le-leb (length es) sh.c g, le-ltb (held replies) (sh.s - 1) k)

-- ---- the ways

module _ (sh : Shape) (b msg out : List ℕ) (m : Message) (h : Header) (r : Ready sh b m msg) (e : m ≡ VerifyReply h) where
  abbrev st : State
  st = state_of sh b

  abbrev w : Wire
  w = wire_in sh.s msg

  abbrev from : ℕ
  from = h.from_group

  kind_known : known (tag_of m) ≡ true
  unfolding any
  kind_known = ap (λ (x : Message). known (tag_of x)) e

  kind_views : bare (tag_of m) ≡ false
  unfolding row_of
  kind_views = ap (λ (x : Message). bare (tag_of x)) e

  kind_is : tag_of m ≡ 19
  kind_is = ap tag_of e

  told_so : Told sh.n sh.s m msg
  told_so = ready_told sh b msg m r kind_known

  from_is : w.from_group ≡ from
  from_is = ap (λ (x : Header). x.from_group) (told_so.header ∙ ap header_in e)

  -- the sender is of a group
  pub from_below : from < sh.s
  unfolding row_of
  from_below = rw e at (told_sender sh.n sh.s m msg told_so (ap (λ (x : Message). from_outside (tag_of x)) e)).0

  pub reply_views : 16 + 4 * sh.s ≤ length msg
  reply_views = views_stand sh b msg m r kind_known kind_views

  -- the site waits for replies, and the view is its own
  status_is : st.view.status ≡ 3
  unfolding status_right pick row_of state_of
  status_is = eqb-true st.view.status 3 (rw kind_is at r.status)

  views_equal : views_of sh msg ≡ st.view.g_vec
  unfolding view_right pick row_of wire_in
  views_equal = sym (views_said sh b msg m r kind_known kind_views) ∙ same_true w.g_vec st.view.g_vec (and_right (eqb w.view st.view.g_view) _ (rw kind_is at r.view))

  by_rule : (o : Outcome) → on_verify_reply sh st w ≡ o → handled 19 on_verify_reply sh m b msg out ≡ closes sh b out o
  by_rule o q = handled_own 19 on_verify_reply sh m b msg out kind_is ∙ ap (closes sh b out) q

  module _ (f : Bool) (q : f ≡ is_some (reply_at sh.c b (start_of sh at_replies + reply_length sh.c * from))) where
    flag_is : (v : Bool) → f ≡ v → is_some (get_or st.change.replies from none) ≡ v
    flag_is v z = ap is_some (sym (reply_at_lem (stands_midway r.stands) from from_below)) ∙ sym q ∙ z

    pub replied : f ≡ true → leaves 7 b out ≡ handled 19 on_verify_reply sh m b msg out
    replied z = sym (by_rule (refused 7) (second sh st w from w.entries from_is refl (flag_is true z)) ∙ closes_refused sh b out 7)

  module _ (at : ℕ) (a : at ≡ entries_at sh.s 19) where
    whole : length msg ≡ at + 4 + 24 * num msg at 4
    whole = told_length sh.n sh.s m msg told_so ∙ ap (λ (j : ℕ). length_for sh.s j (num msg (entries_at sh.s j) 4)) kind_is ∙ ap (λ (x : ℕ). x + 4 + 24 * num msg x 4) (sym a)

    -- the count of the entries stands there
    pub reply_counted : at + 4 ≤ length msg
    reply_counted = omega (arith, whole)

    module _ (number : ℕ) (n : number ≡ num msg at 4) where
      abbrev es : List Entry
      es = items (entry_at msg) 24 (at + 4) number

      entries_are : w.entries ≡ es
      entries_are =
          told_entries sh.n sh.s m msg told_so
          ∙ ap (λ (j : ℕ). items (entry_at msg) 24 (entries_at sh.s j + 4) (num msg (entries_at sh.s j) 4)) kind_is
          ∙ ap (λ (x : ℕ). items (entry_at msg) 24 (x + 4) (num msg x 4)) (sym a)
          ∙ ap (items (entry_at msg) 24 (at + 4)) (sym n)

      entries_long : length es ≡ number
      entries_long = length_items (entry_at msg) 24 (at + 4) number

      -- and they after it
      pub reply_stands : at + 4 + 24 * number ≤ length msg
      reply_stands = omega (arith, whole)

      module _ (f : Bool) (q : f ≡ is_some (reply_at sh.c b (start_of sh at_replies + reply_length sh.c * from))) (z : f ≡ false) where
        new : is_some (get_or st.change.replies from none) ≡ false
        new = flag_is f q false z

        pub reply_past : sh.c < number → leaves 8 b out ≡ handled 19 on_verify_reply sh m b msg out
        reply_past k = sym (by_rule (refused 8) (many sh st w from es from_is entries_are new (rw entries_long k)) ∙ closes_refused sh b out 8)

        module _ (g : number ≤ sh.c) (k : ℕ) (c : k ≡ count (λ j. is_some (reply_at sh.c b (start_of sh at_replies + reply_length sh.c * j))) sh.s) where
          abbrev with : List (Option (List Entry))
          with = set st.change.replies from (some es)

          fits : length es ≤ sh.c
          fits = rw entries_long g

          held_with : held with ≡ k + 1
          held_with = held_more st.change.replies from es (omega (arith, from_below, (stands_fits r.stands).reply_places)) (none_is (get_or st.change.replies from none) new) ∙ ap (λ (x : ℕ). x + 1) (sym (held_counted r.stands k c))

          pub reply_kept : (b' : List ℕ) → k + 1 < sh.s - 1 → b' ≡ splice b (start_of sh at_replies + reply_length sh.c * from) (reply_bytes sh.c (some es)) → quiet b' out ≡ handled 19 on_verify_reply sh m b msg out
          reply_kept b' l x =
              let y = put_reply (stands_laid r.stands) from es (even_replies (stands_midway r.stands)) fits from_below x in
              let d : with_change st.change.votes st.change.draft st.change.boundary with st ≡ changing st 3 st.change.votes st.change.draft st.change.boundary with = ap (λ (v : ℕ). changing st v st.change.votes st.change.draft st.change.boundary with) status_is in
              let t = changing st 3 st.change.votes st.change.draft st.change.boundary with in
              sym (by_rule (done t []) (waits sh st w from es from_is entries_are new fits (omega (arith, held_with))) ∙ closes_quiet sh b out t ∙ ap (λ (v : List ℕ). quiet v out) (sym (y.bytes ∙ ap (image sh) d)))

          pub reply_last : (v : Left) → sh.s - 1 ≤ k + 1 → v ≡ closes sh b out (starts_with sh b (views_of sh msg) (merged_with sh b msg (record { from = from; at = at + 4; count = number }))) → v ≡ handled 19 on_verify_reply sh m b msg out
          unfolding starts
          reply_last v l x =
              x ∙ ap (λ (y : List ℕ). closes sh b out (starts_with sh b y (merged st.change.draft with))) views_equal
              ∙ sym (by_rule (starts sh st (merged st.change.draft with)) (last sh st w from es from_is entries_are new fits (omega (arith, held_with))))
