-- The head's fields, each read from its place and written to it. Assumes nothing.
use Prim.Native.Nat.{ℕ, ◌+◌, ◌^◌, ◌≤◌, ◌<◌}
use mathlib.Core.Path.{◌≡◌, refl, sym, ap, ◌∙◌}
use mathlib.Core.List.{List, []}
use native.Mathlib.Nat.{zero-add}
use lib.ListN.{length, get_or, set}
use lib.Dec.{lit<, lit≤}
use Rattle.octets.specs.Bytes.{le, unle, num, splice}
use Rattle.octets.specs.Sections.{concat, offset}
use Rattle.octets.proofs.Laws.{length_le}
use Rattle.octets.proofs.Sections.{set_section}
use Rattle.rules.specs.State.{State, on_site, at_time, in_view, with_change, with_logged}
use Rattle.rules.specs.Image.{head_section, sections}
use Rattle.rules.specs.declared.Shape.{Shape}
use Rattle.rules.proofs.Image.{head_fields, head_at}
use Rattle.places.specs.Layout.{Midway}
use Rattle.places.proofs.Sections.{Laid, midway_laid, get_in, put_in}

-- ---- field i, k bytes at `at`

module _ {sh : Shape} {st : State} {b : List ℕ} (l : Laid sh st b) where
  pub get_head : (i at k v : ℕ) → i < length (head_fields st) → at ≡ offset (head_fields st) i → at + k ≤ 48 → get_or (head_fields st) i [] ≡ le k v → v < 256 ^ k → num b at k ≡ v
  unfolding num
  get_head i at k v h e r q f = ap unle (get_in l 0 at at k (lit< tt) (sym (zero-add at)) r) ∙ head_at st i at k v h e q f

  pub put_head : {b' : List ℕ} (next : State) (i at k v : ℕ) → i < length (head_fields st) → at ≡ offset (head_fields st) i → at + k ≤ 48 → length (get_or (head_fields st) i []) ≡ k → set (head_fields st) i (le k v) ≡ head_fields next → set (sections sh st) 0 (head_section next) ≡ sections sh next → b' ≡ splice b at (le k v) → Laid sh next b'
  unfolding head_section
  put_head next i at k v h e r n q s w =
      let m : splice (head_section st) at (le k v) ≡ head_section next = set_section (head_fields st) i at (le k v) h e (length_le k v ∙ sym n) ∙ ap concat q in
      put_in l next 0 at at (le k v) (lit< tt) (sym (zero-add at)) (rw length_le r) (ap (set (sections sh st) 0) m ∙ s) w

  -- ---- each field written
  pub put_group : {b' : List ℕ} (v : ℕ) → b' ≡ splice b 0 (le 1 v) → Laid sh (on_site v st.site.replica st) b'
  put_group v = put_head _ 0 0 1 v (lit< tt) refl (lit≤ tt) (length_le 1 st.site.group) refl refl

  pub put_replica : {b' : List ℕ} (v : ℕ) → b' ≡ splice b 1 (le 1 v) → Laid sh (on_site st.site.group v st) b'
  put_replica v = put_head _ 1 1 1 v (lit< tt) (simp length_le) (lit≤ tt) (length_le 1 st.site.replica) refl refl

  pub put_status : {b' : List ℕ} (v : ℕ) → b' ≡ splice b 2 (le 1 v) → Laid sh (in_view st.view.g_view st.view.g_vec st.view.normal v st) b'
  put_status v = put_head _ 2 2 1 v (lit< tt) (simp length_le) (lit≤ tt) (length_le 1 st.view.status) refl refl

  pub put_view : {b' : List ℕ} (v : ℕ) → b' ≡ splice b 8 (le 4 v) → Laid sh (in_view v st.view.g_vec st.view.normal st.view.status st) b'
  put_view v = put_head _ 4 8 4 v (lit< tt) (simp length_le) (lit≤ tt) (length_le 4 st.view.g_view) refl refl

  pub put_normal : {b' : List ℕ} (v : ℕ) → b' ≡ splice b 12 (le 4 v) → Laid sh (in_view st.view.g_view st.view.g_vec v st.view.status st) b'
  put_normal v = put_head _ 5 12 4 v (lit< tt) (simp length_le) (lit≤ tt) (length_le 4 st.view.normal) refl refl

  pub put_clock : {b' : List ℕ} (v : ℕ) → b' ≡ splice b 16 (le 8 v) → Laid sh (at_time v st) b'
  put_clock v = put_head _ 6 16 8 v (lit< tt) (simp length_le) (lit≤ tt) (length_le 8 st.clock) refl refl

  pub put_sync : {b' : List ℕ} (v : ℕ) → b' ≡ splice b 24 (le 8 v) → Laid sh (with_logged st.logged.log v st.logged.commit st) b'
  put_sync v = put_head _ 7 24 8 v (lit< tt) (simp length_le) (lit≤ tt) (length_le 8 st.logged.sync) refl refl

  pub put_commit : {b' : List ℕ} (v : ℕ) → b' ≡ splice b 32 (le 8 v) → Laid sh (with_logged st.logged.log st.logged.sync v st) b'
  put_commit v = put_head _ 8 32 8 v (lit< tt) (simp length_le) (lit≤ tt) (length_le 8 st.logged.commit) refl refl

  pub put_boundary : {b' : List ℕ} (v : ℕ) → b' ≡ splice b 40 (le 8 v) → Laid sh (with_change st.change.votes st.change.draft v st.change.replies st) b'
  put_boundary v = put_head _ 9 40 8 v (lit< tt) (simp length_le) (lit≤ tt) (length_le 8 st.change.boundary) refl refl

-- ---- each field read

module _ {sh : Shape} {st : State} {b : List ℕ} (m : Midway sh st b) where
  pub group_of : num b 0 1 ≡ st.site.group
  group_of = get_head (midway_laid m) 0 0 1 st.site.group (lit< tt) refl (lit≤ tt) refl m.holds.group

  pub replica_of : num b 1 1 ≡ st.site.replica
  replica_of = get_head (midway_laid m) 1 1 1 st.site.replica (lit< tt) (simp length_le) (lit≤ tt) refl m.holds.replica

  pub status_of : num b 2 1 ≡ st.view.status
  status_of = get_head (midway_laid m) 2 2 1 st.view.status (lit< tt) (simp length_le) (lit≤ tt) refl m.holds.status

  pub view_of : num b 8 4 ≡ st.view.g_view
  view_of = get_head (midway_laid m) 4 8 4 st.view.g_view (lit< tt) (simp length_le) (lit≤ tt) refl m.holds.view

  pub normal_of : num b 12 4 ≡ st.view.normal
  normal_of = get_head (midway_laid m) 5 12 4 st.view.normal (lit< tt) (simp length_le) (lit≤ tt) refl m.holds.normal

  pub clock_of : num b 16 8 ≡ st.clock
  clock_of = get_head (midway_laid m) 6 16 8 st.clock (lit< tt) (simp length_le) (lit≤ tt) refl m.holds.clock

  pub sync_of : num b 24 8 ≡ st.logged.sync
  sync_of = get_head (midway_laid m) 7 24 8 st.logged.sync (lit< tt) (simp length_le) (lit≤ tt) refl m.holds.sync

  pub commit_of : num b 32 8 ≡ st.logged.commit
  commit_of = get_head (midway_laid m) 8 32 8 st.logged.commit (lit< tt) (simp length_le) (lit≤ tt) refl m.holds.commit

  pub boundary_of : num b 40 8 ≡ st.change.boundary
  boundary_of = get_head (midway_laid m) 9 40 8 st.change.boundary (lit< tt) (simp length_le) (lit≤ tt) refl m.holds.boundary
