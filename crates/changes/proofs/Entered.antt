-- A view entered: what is written, as one state; and the own role by the gVec of a message. Assumes nothing.
use Prim.Native.Nat.{ℕ, zero, suc, ◌+◌, ◌*◌, ◌%◌, ◌^◌, ◌≤◌, ◌<◌}
use mathlib.Core.Path.{◌≡◌, refl, sym, ap, ◌∙◌}
use mathlib.Core.Bool.{Bool, true, false}
use mathlib.Core.Option.{none}
use mathlib.Core.List.{List}
use native.Mathlib.Omega.{arith}
use lib.ListN.{length, get_or, replicate, length-replicate}
use lib.Dec.{eqb, lit<, lit≤}
use Rattle.octets.specs.Bytes.{le, num, part, splice}
use Rattle.octets.proofs.Laws.{Bytes, length_le, part_part}
use Rattle.octets.proofs.Codecs.{get_or_items}
use Rattle.rules.specs.Kind.{row_of}
use Rattle.rules.specs.Choice.{pick}
use Rattle.rules.specs.Wire.{Wire}
use Rattle.rules.specs.State.{State}
use Rattle.rules.specs.Image.{table_length, vote_length, vote_bytes, image, at_early, at_log, at_votes}
use Rattle.rules.specs.Step.{entered}
use Rattle.rules.specs.declared.Shape.{Shape}
use Rattle.places.specs.Layout.{start_of, own_bytes, Stands}
use Rattle.places.proofs.Sections.{Laid, laid_as, get_all, stands_fits, stands_laid, stands_midway}
use Rattle.places.proofs.Head.{get_head, put_status, put_boundary, group_of, replica_of}
use Rattle.places.proofs.Rows.{within, Even}
use Rattle.places.proofs.Zeros.{votes_zeros}
use Rattle.places.proofs.Kept.{put_own_vote}
use Rattle.handler.proofs.Own.{group_below, replica_below}
use Rattle.handler.proofs.Sends.{Sender}
use Rattle.views.specs.Views.{views_of, tables_length, taken_in, Spare}
use Rattle.views.proofs.Cleared.{part_zeros, log_spare}
use Rattle.views.proofs.Emptied.{empty_laid}
use Rattle.views.proofs.Taken.{views_long, views_fit, view_taken}
use Rattle.changes.specs.Changes.{leads_with, entered_by}

-- by the views of a message the own replica leads or not
pub leads_with_lem : {sh : Shape} {st : State} {b : List ℕ} (s : Stands sh st b) (msg : List ℕ) (own view replica : ℕ) (r : Bool) → own ≡ num b 0 1 → view ≡ num msg (16 + 4 * own) 4 → replica ≡ num b 1 1 → r ≡ eqb replica (view % sh.n) → r ≡ leads_with sh st (views_of sh msg)
leads_with_lem {sh} {st} s msg own view replica r e v q h =
    let g : own ≡ st.site.group = e ∙ group_of (stands_midway s) in
    let x : get_or (views_of sh msg) st.site.group 0 ≡ num msg (16 + 4 * st.site.group) 4 = get_or_items (λ a. num msg a 4) 4 16 sh.s st.site.group 0 (group_below s) in
    h ∙ rw (q ∙ replica_of (stands_midway s), v, g, x)

-- no vote at all
pub even_none : (c n : ℕ) → Even (vote_bytes c) (vote_length c) (replicate n none)
unfolding vote_bytes
even_none c zero = tt
even_none c (suc n) = (length-replicate {A = ℕ} (vote_length c) 0, even_none c n)

module _ {sh : Shape} {st : State} {b : List ℕ} (s : Stands sh st b) (view : ℕ) (msg : List ℕ) (bs : Bytes msg) (h : 16 + 4 * sh.s ≤ length msg) {b₁ b₂ b₃ b₄ : List ℕ}
    (w₁ : b₁ ≡ splice b (start_of sh at_early) (replicate (tables_length sh) 0)) (w₂ : b₂ ≡ taken_in sh b₁ view msg) (w₃ : b₃ ≡ splice b₂ 2 (le 1 2)) (w₄ : b₄ ≡ splice b₃ 40 (le 8 0)) where
  -- without a vote
  pub entered_follows : Laid sh (entered_by sh st view (views_of sh msg) false) b₄
  unfolding pick
  entered_follows = put_boundary (put_status (view_taken (empty_laid (stands_laid s) w₁) view msg bs h w₂) 2 w₃) 0 w₄

  pub entered_follower : (leads : Bool) → leads ≡ false → b₄ ≡ image sh (entered_by sh st view (views_of sh msg) leads)
  entered_follower leads e = entered_follows.bytes ∙ rw e

  -- the own vote has a place
  pub entered_own : num b₄ 1 1 < sh.n
  entered_own =
      let f = stands_fits s in
      let e : num b₄ 1 1 ≡ st.site.replica = get_head entered_follows 1 1 1 st.site.replica (lit< tt) (simp length_le) (lit≤ tt) refl f.replica in
      omega (arith, replica_below s)

  -- which is free
  pub entered_place : part b₄ (start_of sh at_votes + vote_length sh.c * num b₄ 1 1) (vote_length sh.c) ≡ replicate (vote_length sh.c) 0
  unfolding pick
  entered_place =
      let k : ℕ = vote_length sh.c in
      let w : k * num b₄ 1 1 + k ≤ k * sh.n = within k (num b₄ 1 1) sh.n entered_own in
      let l : start_of sh at_votes + k * sh.n ≤ length b₄ = omega (arith, entered_follows.size) in
      sym (part_part b₄ (start_of sh at_votes) (k * sh.n) (k * num b₄ 1 1) k l w)
      ∙ ap (λ (x : List ℕ). part x (k * num b₄ 1 1) k) (get_all entered_follows 7 (start_of sh at_votes) (k * sh.n) (lit< tt) refl refl ∙ votes_zeros sh.c sh.n)
      ∙ part_zeros (k * sh.n) (k * num b₄ 1 1) k w

  -- behind its entries the log is zeros
  pub entered_log : Spare 24 sh.c (part b₄ (start_of sh at_log) (table_length sh.c))
  entered_log = log_spare entered_follows s.fits.small (stands_fits s).log.room

  -- the own vote is kept
  pub entered_leader : {b₅ : List ℕ} (leads : Bool) → leads ≡ true → b₅ ≡ splice b₄ (start_of sh at_votes + vote_length sh.c * num b₄ 1 1) (own_bytes sh b₄) → b₅ ≡ image sh (entered_by sh st view (views_of sh msg) leads)
  unfolding pick row_of
  entered_leader leads e w =
      let f = stands_fits s in
      rw e (put_own_vote entered_follows (even_none sh.c sh.n) f.log.room (replica_below s) f.replica f.normal f.sync w).bytes

module _ {sh : Shape} {st : State} {b : List ℕ} (s : Stands sh st b) (view : ℕ) (msg : List ℕ) (bs : Bytes msg) (h : 16 + 4 * sh.s ≤ length msg) where
  -- its bytes
  pub entered_laid : {b' : List ℕ} → b' ≡ image sh (entered_by sh st view (views_of sh msg) false) → Laid sh (entered_by sh st view (views_of sh msg) false) b'
  entered_laid e = let l = entered_follows s view msg bs h refl refl refl refl in laid_as l e

  -- what it sends
  pub entered_sender : view < 256 ^ 4 → Sender sh (entered_by sh st view (views_of sh msg) false)
  entered_sender v = let f = stands_fits s in record { group = f.group; replica = f.replica; view = v; places = views_long sh msg; g_vec = views_fit sh msg bs h }

-- what is entered is what the rule says
pub entered_is : (sh : Shape) (st : State) (w : Wire) (view : ℕ) (g_vec : List ℕ) (leads : Bool) → w.view ≡ view → w.g_vec ≡ g_vec → leads ≡ leads_with sh st g_vec → entered sh st w ≡ entered_by sh st view g_vec leads
entered_is sh st w view g_vec leads e g q = rw (q, e, g)
