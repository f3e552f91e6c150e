-- Why each test of a message at a state's bytes is that of the rules. Assumes nothing.
use Prim.Native.Nat.{ℕ, zero, suc, ◌+◌, ◌-◌, ◌*◌, ◌%◌, ◌≤◌, ◌<◌}
use mathlib.Core.Path.{◌≡◌, refl, sym, ap, ◌∙◌}
use mathlib.Core.Bool.{Bool, true, false, ◌&&◌, ◌||◌, not, and-true, and-false}
use mathlib.Core.List.{List, [], ◌∷◌}
use native.Mathlib.Omega.{arith}
use lib.ListN.{get_or}
use lib.Dec.{eqb, ltb, lit<}
use borrow.Author.Tests.{leb-true}
use Rattle.octets.specs.Bytes.{num, items}
use Rattle.octets.proofs.Codecs.{back_all, number, length_items, get_or_items}
use Rattle.rules.specs.Choice.{pick, same}
use Rattle.rules.specs.Group.{holds}
use Rattle.rules.specs.Wire.{Wire}
use Rattle.rules.specs.Kind.{bare, from_outside, row_of}
use Rattle.rules.specs.Read.{wire_in}
use Rattle.rules.specs.State.{State}
use Rattle.rules.specs.Image.{state_of}
use Rattle.rules.specs.Step.{here, newer, equal, view_right, status_right, leads_by, from_own, from_leader, receiver_fits, sender_fits, role_right}
use Rattle.rules.specs.declared.Header.{Header}
use Rattle.rules.specs.declared.Shape.{Shape}
use Rattle.places.specs.Layout.{Stands}
use Rattle.places.proofs.Sections.{stands_laid, stands_fits, stands_midway, drop_all}
use Rattle.places.proofs.Head.{group_of, replica_of, status_of, view_of}
use Rattle.handler.proofs.Own.{own_below}
use Rattle.rules.proofs.Tests.{same_append}
use Rattle.kinds.specs.Rows.{row_as}
use Rattle.kinds.specs.declared.Row.{Row}
use Rattle.rules.specs.declared.Sender.TheVariants.{OwnLeader, OwnReplica, OtherLeader}
use Rattle.rules.specs.declared.Views.TheVariants.{AnyView, Greater, GreaterOrEqual, BothEqual}
use Rattle.rules.proofs.Conjuncts.{good_is}
use Rattle.admit.specs.Refusal.{Heads}
use Rattle.admit.proofs.Cells.{views_cell, sender_cell, asked, mask_asks, fits_if_equal, fits_always, not_bare}

-- ---- the views in a row

one_more : (j : ℕ) → j + 1 ≡ suc j
one_more j = omega arith

views_more : (f g : ℕ → ℕ) (o p j : ℕ) → same (items f 4 o (suc j)) (items g 4 p (suc j)) ≡ (same (items f 4 o j) (items g 4 p j) && eqb (f (o + 4 * j)) (g (p + 4 * j)))
unfolding items same
views_more f g o p j =
    same_append (items f 4 o j) (items g 4 p j) (f (o + 4 * j) ∷ []) (g (p + 4 * j) ∷ []) (length_items f 4 o j ∙ sym (length_items g 4 p j))
    ∙ ap (λ (z : Bool). same (items f 4 o j) (items g 4 p j) && z) (and-true (eqb (f (o + 4 * j)) (g (p + 4 * j))))

-- two that differ somewhere differ at the end
views_stay : (f g : ℕ → ℕ) (o p j k : ℕ) → same (items f 4 o j) (items g 4 p j) ≡ false → same (items f 4 o (j + k)) (items g 4 p (j + k)) ≡ false
views_stay f g o p j zero h = let e : j + 0 ≡ j = omega arith in rw e h
views_stay f g o p j (suc k) h = let e : j + suc k ≡ suc (j + k) = omega arith in rw (e, views_more f g o p (j + k), views_stay f g o p j k h)

views_apart : (f g : ℕ → ℕ) (o p j n : ℕ) → eqb (f (o + 4 * j)) (g (p + 4 * j)) ≡ false → j < n → same (items f 4 o n) (items g 4 p n) ≡ false
views_apart f g o p j n h l =
    let e : n ≡ suc j + (n - suc j) = omega arith in
    rw e (views_stay f g o p (suc j) (n - suc j) (rw (views_more f g o p j, h) (and-false (same (items f 4 o j) (items g 4 p j)))))

-- those that agree everywhere are the same
views_agree : (f g : ℕ → ℕ) (o p n : ℕ) → ((j : ℕ) → j < n → eqb (f (o + 4 * j)) (g (p + 4 * j)) ≡ true) → same (items f 4 o n) (items g 4 p n) ≡ true
unfolding items same
views_agree f g o p zero h = refl
views_agree f g o p (suc n) h = rw (views_more f g o p n, views_agree f g o p n (λ j l. h j (omega arith)), h n (omega arith))

pub views_by : (f g : ℕ → ℕ) (o p n : ℕ) (x : Bool) → (x ≡ true → (j : ℕ) → j < n → eqb (f (o + 4 * j)) (g (p + 4 * j)) ≡ true) → (x ≡ false → (j : ℕ) × (j < n) × (eqb (f (o + 4 * j)) (g (p + 4 * j)) ≡ false)) → x ≡ same (items f 4 o n) (items g 4 p n)
views_by f g o p n true h k = sym (views_agree f g o p n (h refl))
views_by f g o p n false h k = let w = k refl in sym (views_apart f g o p w.0 n w.2 w.1)

pub views_in : {sh : Shape} {b : List ℕ} → Stands sh (state_of sh b) b → items (λ a. num b a 4) 4 48 sh.s ≡ (state_of sh b).view.g_vec
views_in {sh} {b} s =
    let l = stands_laid s in
    let f = stands_fits s in
    back_all (number 4) b 48 sh.s (state_of sh b).view.g_vec _ f.g_vec (sym f.g_vec_places) (drop_all l 1 48 (lit< tt) refl)

module _ {sh : Shape} {b msg : List ℕ} {k : ℕ} {h : Header} (s : Stands sh (state_of sh b) b) (q : Heads sh k h msg) where
  abbrev w : Wire
  w = wire_in sh.s msg

  abbrev st : State
  st = state_of sh b

  pub here_is : (g r : ℕ) (x : Bool) → g ≡ num b 0 1 → r ≡ num b 1 1 → x ≡ holds h.to_mask r → (eqb h.to_group g && x) ≡ here st w
  here_is g r x e f y =
      let a : h.to_group ≡ w.to_group = ap (λ (z : Header). z.to_group) (sym q.header) in
      let c : h.to_mask ≡ w.to_mask = ap (λ (z : Header). z.to_mask) (sym q.header) in
      rw (y, a, c, e ∙ group_of (stands_midway s), f ∙ replica_of (stands_midway s))

  pub newer_is : (v : ℕ) → v ≡ num b 8 4 → ltb v h.view ≡ newer st w
  newer_is v e =
      let a : h.view ≡ w.view = ap (λ (z : Header). z.view) (sym q.header) in
      rw (a, e ∙ view_of (stands_midway s))

  views_of : bare k ≡ false → w.g_vec ≡ items (λ a. num msg a 4) 4 16 sh.s
  unfolding wire_in pick
  views_of n = ap (λ (z : ℕ). items (λ a. num msg a 4) 4 16 (pick (bare z) 0 sh.s)) q.kind ∙ ap (λ (z : Bool). items (λ a. num msg a 4) 4 16 (pick z 0 sh.s)) n

  pub equal_is : (v : ℕ) (x : Bool) → bare k ≡ false → v ≡ num b 8 4 → x ≡ same (items (λ a. num msg a 4) 4 16 sh.s) st.view.g_vec → (eqb h.view v && x) ≡ equal st w
  equal_is v x n e y =
      let a : h.view ≡ w.view = ap (λ (z : Header). z.view) (sym q.header) in
      rw (y, a, e ∙ view_of (stands_midway s), views_of n)

  -- ---- views, status

  module _ (r : Row) (e : r ≡ row_as k) where
    pub view_any : r.views ≡ AnyView → true ≡ view_right k st w
    unfolding view_right
    view_any d = rw (sym (views_cell k r e) ∙ d)

    pub view_greater : (x : Bool) → r.views ≡ Greater → x ≡ newer st w → x ≡ view_right k st w
    unfolding view_right
    view_greater x d y = rw (sym (views_cell k r e) ∙ d, y)

    pub view_either : (x y : Bool) → r.views ≡ GreaterOrEqual → x ≡ newer st w → y ≡ equal st w → (x || y) ≡ view_right k st w
    unfolding view_right
    view_either x y d f g = rw (sym (views_cell k r e) ∙ d, f, g)

    pub view_equal : (y : Bool) → r.views ≡ BothEqual → y ≡ equal st w → y ≡ view_right k st w
    unfolding view_right
    view_equal y d g = rw (sym (views_cell k r e) ∙ d, g)

    module _ (v : ℕ) (y : Bool) (f : v ≡ num b 2 1) (m : y ≡ holds r.statuses v) where
      taken : y ≡ asked (row_of k).status st.view.status
      taken =
          let l = (good_is sh st s.good).ranges in
          m ∙ rw (ap (λ (x : Row). x.statuses) e, f ∙ status_of (stands_midway s)) (mask_asks k st.view.status (leb-true _ _ l.least_status) (leb-true _ _ l.most_status))

      pub status_if_equal : (x : Bool) → r.only_if_equal ≡ true → x ≡ newer st w → (x || y) ≡ status_right k st w
      unfolding status_right
      status_if_equal x d g = rw (taken, g) (sym (fits_if_equal (row_of k).status st w (sym (ap (λ (z : Row). z.only_if_equal) e) ∙ d)))

      pub status_always : r.only_if_equal ≡ false → y ≡ status_right k st w
      unfolding status_right
      status_always d = taken ∙ sym (fits_always (row_of k).status st w (sym (ap (λ (z : Row). z.only_if_equal) e) ∙ d))

  -- ---- roles

  view_in : (j : ℕ) → bare k ≡ false → j < sh.s → get_or w.g_vec j 0 ≡ num msg (16 + 4 * j) 4
  view_in j n l = ap (λ (z : List ℕ). get_or z j 0) (views_of n) ∙ get_or_items (λ a. num msg a 4) 4 16 sh.s j 0 l

  pub leads_is : (g r : ℕ) (x : Bool) → bare k ≡ false → g ≡ num b 0 1 → r ≡ num b 1 1 → x ≡ eqb r (num msg (16 + 4 * g) 4 % sh.n) → x ≡ leads_by sh st w
  leads_is g r x n e f y =
      let a : st.site.group ≡ g = sym (e ∙ group_of (stands_midway s)) in
      let c : st.site.replica ≡ r = sym (f ∙ replica_of (stands_midway s)) in
      y ∙ rw (a, c, view_in g n (own_below s g e))

  pub inside_is : (g : ℕ) → g ≡ num b 0 1 → eqb h.from_group g ≡ from_own st w
  inside_is g e =
      let a : h.from_group ≡ w.from_group = ap (λ (z : Header). z.from_group) (sym q.header) in
      rw (a, e ∙ group_of (stands_midway s))

  pub from_leader_is : (x : Bool) → from_outside k ≡ false → x ≡ eqb h.from_replica (num msg (16 + 4 * h.from_group) 4 % sh.n) → x ≡ from_leader sh w
  from_leader_is x o y =
      let a : w.from_group ≡ h.from_group = ap (λ (z : Header). z.from_group) q.header in
      let c : w.from_replica ≡ h.from_replica = ap (λ (z : Header). z.from_replica) q.header in
      y ∙ rw (a, c, view_in h.from_group (not_bare k o) (q.sender o).0)

  module _ (r : Row) (e : r ≡ row_as k) where
    module _ (g : ℕ) (eg : g ≡ num b 0 1) where
      pub by_leader : (z : Bool) → r.sender ≡ OwnLeader → z ≡ from_leader sh w → (eqb h.from_group g && z) ≡ sender_fits (row_of k).sender sh st w
      by_leader z d y = rw (sym (sender_cell k r e) ∙ d, inside_is g eg, y)

      pub by_member : (i : ℕ) → r.sender ≡ OwnReplica → i ≡ num b 1 1 → (eqb h.from_group g && not (eqb h.from_replica i)) ≡ sender_fits (row_of k).sender sh st w
      by_member i d y =
          let a : h.from_replica ≡ w.from_replica = ap (λ (v : Header). v.from_replica) (sym q.header) in
          rw (sym (sender_cell k r e) ∙ d, inside_is g eg, a, y ∙ replica_of (stands_midway s))

      pub by_other : (z : Bool) → r.sender ≡ OtherLeader → z ≡ from_leader sh w → (not (eqb h.from_group g) && z) ≡ sender_fits (row_of k).sender sh st w
      by_other z d y = rw (sym (sender_cell k r e) ∙ d, inside_is g eg, y)

  pub roles_are : (x y : Bool) → x ≡ receiver_fits (row_of k).receiver sh st w → y ≡ sender_fits (row_of k).sender sh st w → (x && y) ≡ role_right k sh st w
  unfolding role_right
  roles_are x y e f = rw (e, f)

  -- what a role asks of the numbers
  pub sender_below : from_outside k ≡ false → (h.from_group < sh.s) × (sh.s ≤ 8) × (0 < sh.n)
  sender_below o = ((q.sender o).0, s.fits.few, omega (arith, s.fits.least))

  pub own_role : (g : ℕ) → g ≡ num b 0 1 → (g < sh.s) × (sh.s ≤ 8) × (0 < sh.n)
  own_role g e = (own_below s g e, s.fits.few, omega (arith, s.fits.least))
