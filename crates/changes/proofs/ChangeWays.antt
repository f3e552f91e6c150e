-- The ways through the handler of kind 7. Assumes nothing.
use Prim.Native.Nat.{ℕ, ◌+◌, ◌*◌, ◌^◌, ◌≤◌, ◌<◌}
use mathlib.Core.Path.{◌≡◌, refl, sym, ap, ◌∙◌}
use mathlib.Core.Bool.{Bool, true, false}
use mathlib.Core.List.{List, [], ◌∷◌}
use native.Mathlib.Omega.{arith}
use lib.ListN.{length}
use Rattle.octets.specs.Bytes.{num, splice}
use Rattle.octets.proofs.Laws.{Bytes}
use Rattle.rules.specs.Choice.{any}
use Rattle.rules.specs.Wire.{Wire, wire_bytes, tag_of, header_in}
use Rattle.rules.specs.Kind.{bare, known, row_of}
use Rattle.rules.specs.Read.{wire_in, length_for}
use Rattle.rules.specs.State.{State}
use Rattle.rules.specs.Image.{image, state_of}
use Rattle.rules.specs.Step.{done, send_leader, leads_by, entered, on_change_view}
use Rattle.rules.specs.Bytes.{Left, leaves}
use Rattle.rules.specs.declared.Header.{Header}
use Rattle.rules.specs.declared.Shape.{Shape}
use Rattle.rules.specs.declared.Message.{Message}
use Rattle.rules.specs.declared.Message.TheVariants.{ChangeView}
use Rattle.rules.proofs.Choice.{pick_true, pick_false}
use Rattle.rules.proofs.Tables.{TableFits}
use Rattle.places.specs.Layout.{Fits}
use Rattle.places.proofs.Sections.{Laid, stands_fits}
use Rattle.handler.specs.Handler.{Ready, handled}
use Rattle.handler.specs.Sending.{message_bytes}
use Rattle.handler.proofs.Own.{group_below}
use Rattle.handler.proofs.Closes.{quiet}
use Rattle.handler.proofs.Ways.{keeps, no_room_for, sends_one}
use Rattle.handler.proofs.Sends.{Sender, own_group}
use Rattle.views.specs.Views.{views_of}
use Rattle.changes.specs.Changes.{leads_with, entered_by, log_in, vote_in}
use Rattle.changes.proofs.Entered.{entered_is, entered_laid, entered_sender}
use Rattle.changes.proofs.Logged.{vote_room, log_counted, vote_sent, vote_long}
use Rattle.changes.proofs.Said.{view_said, view_fits, views_said, views_stand, leads_said}

-- ---- the rule, by whether the site leads

module _ (sh : Shape) (st : State) (w : Wire) where
  leads : leads_by sh st w ≡ true → on_change_view sh st w ≡ done (entered sh st w) []
  unfolding on_change_view
  leads q = pick_true (leads_by sh st w) _ _ q

  follows : leads_by sh st w ≡ false → on_change_view sh st w ≡ done (entered sh st w) (send_leader sh (entered sh st w) 8 st.site.group (st.view.normal ∷ st.logged.sync ∷ []) st.logged.log ∷ [])
  unfolding on_change_view
  follows q = pick_false (leads_by sh st w) _ _ q

-- ---- the ways

module _ (sh : Shape) (b msg out : List ℕ) (m : Message) (h : Header) (r : Ready sh b m msg) (e : m ≡ ChangeView h) where
  abbrev st : State
  st = state_of sh b

  abbrev w : Wire
  w = wire_in sh.s msg

  own : tag_of m ≡ 7
  own = ap tag_of e

  kind_known : known (tag_of m) ≡ true
  unfolding any
  kind_known = ap known own

  kind_views : bare (tag_of m) ≡ false
  unfolding row_of
  kind_views = ap (λ (x : Message). bare (tag_of x)) e

  view_is : (header_in m).view ≡ h.view
  view_is = ap (λ (x : Message). (header_in x).view) e

  pub change_room : 16 + 4 * sh.s ≤ length msg
  change_room = views_stand sh b msg m r kind_known kind_views

  abbrev next : Bool → State
  next l = entered_by sh st h.view (views_of sh msg) l

  abbrev sent_vote : Wire
  sent_vote = send_leader sh (next false) 8 st.site.group (st.view.normal ∷ st.logged.sync ∷ []) st.logged.log

  module _ (l : Bool) (q : l ≡ leads_with sh st (views_of sh msg)) where
    next_is : (v : Bool) → l ≡ v → entered sh st w ≡ next v
    next_is v z = entered_is sh st w h.view (views_of sh msg) v (view_said sh b msg m r kind_known ∙ view_is) (views_said sh b msg m r kind_known kind_views) (sym z ∙ q)

    role_is : (v : Bool) → l ≡ v → leads_by sh st w ≡ v
    role_is v z = sym (leads_said sh b msg m r kind_known kind_views l q) ∙ z

    pub change_leads : (b' : List ℕ) → l ≡ true → b' ≡ image sh (next true) → quiet b' out ≡ handled 7 on_change_view sh m b msg out
    change_leads b' z i = keeps 7 on_change_view sh b msg out m own (next true) b' (leads sh st w (role_is true z) ∙ ap (λ (x : State). done x []) (next_is true z)) i

    module _ (z : l ≡ false) (count : ℕ) (c : count ≡ length st.logged.log) where
      says : on_change_view sh st w ≡ done (next false) (sent_vote ∷ [])
      says = follows sh st w (role_is false z) ∙ ap (λ (x : State). done x (send_leader sh x 8 st.site.group (st.view.normal ∷ st.logged.sync ∷ []) st.logged.log ∷ [])) (next_is false z)

      table : TableFits sh.c st.logged.log
      table = (stands_fits r.stands).log

      abbrev sized : Fits sh
      sized = r.stands.fits

      module _ (bs : Bytes msg) where
        next_laid : (b' : List ℕ) → b' ≡ image sh (next false) → Laid sh (next false) b'
        next_laid b' i = entered_laid r.stands h.view msg bs change_room i

        next_sender : Sender sh (next false)
        next_sender = let v : h.view < 256 ^ 4 = omega (arith, view_is, view_fits sh b msg m r kind_known bs) in entered_sender r.stands h.view msg bs change_room v

        long : length (wire_bytes sent_vote) ≡ length_for sh.s 8 count
        long = vote_long (next_laid (image sh (next false)) refl) table sized next_sender ∙ ap (length_for sh.s 8) (sym c)

        pub change_short : (need : ℕ) → need ≡ length_for sh.s 8 count → length out < need → leaves 9 b out ≡ handled 7 on_change_view sh m b msg out
        change_short need n k =
            let g : length out < length (wire_bytes sent_vote) = rw (long, ← n) k in
            no_room_for 7 on_change_view sh b msg out m own (next false) sent_vote says g

        module _ (need : ℕ) (n : need ≡ length_for sh.s 8 count) (k : need ≤ length out) (b' : List ℕ) (i : b' ≡ image sh (next false)) where
          -- the vote may be told
          pub change_tells : (num b' 0 1 < sh.s) × (40 + 4 * sh.s + 24 * length (state_of sh b').logged.log ≤ length out)
          change_tells =
              let x : length (state_of sh b').logged.log ≡ length st.logged.log = log_counted (next_laid b' i) table sized in
              let g : num b' 0 1 ≡ st.site.group = own_group (next_laid b' i) next_sender in
              let y : need ≡ 40 + 4 * sh.s + 24 * count = n ∙ vote_room sh.s count in
              (omega (arith, group_below r.stands), omega arith)

          pub change_sent : (sent : ℕ) (out' : List ℕ) → sent ≡ length (message_bytes sh b' (vote_in sh b') (log_in sh b')) → out' ≡ splice out 0 (message_bytes sh b' (vote_in sh b') (log_in sh b')) → ◌≡◌ {A = Left} (record { refused = false; number = 0; offset = 0; sent = sent; state = b'; out = out' }) (handled 7 on_change_view sh m b msg out)
          change_sent sent out' v o =
              let f = stands_fits r.stands in
              let x = vote_sent (next_laid b' i) table sized next_sender (group_below r.stands) f.normal f.sync in
              let g : length (wire_bytes sent_vote) ≤ length out = rw (long, ← n) k in
              sends_one 7 on_change_view sh b msg out m own (next false) sent_vote says b' out' sent g i (v ∙ ap length x) (o ∙ ap (splice out 0) x)
