-- What a state says: a law for each way through the functions that give it. Assumes nothing.
use Prim.Native.Nat.{ℕ, ◌+◌, ◌-◌, ◌*◌, ◌%◌, ◌≤◌, ◌<◌}
use mathlib.Core.Path.{◌≡◌, sym, ap, ◌∙◌}
use mathlib.Core.Bool.{Bool, true, false, ◌&&◌, not}
use mathlib.Core.List.{List}
use native.Mathlib.Omega.{arith}
use native.Mathlib.Nat.{zero-mod}
use lib.ListN.{length, get_or, get_or-eq_default}
use lib.Dec.{eqb, ltb, leb}
use borrow.Author.Tests.{not-true, not-false, lt-ltb, le-ltb, le-leb, lt-leb, eqb-true}
use Rattle.octets.specs.Bytes.{num}
use Rattle.octets.proofs.Codecs.{length_items}
use Rattle.rules.specs.Choice.{pick}
use Rattle.rules.specs.Group.{shape_fits, leader}
use Rattle.rules.specs.Entry.{entry_of}
use Rattle.rules.specs.State.{State}
use Rattle.rules.specs.Image.{at_gvec, state_length, state_of}
use Rattle.rules.specs.declared.Entry.{Entry}
use Rattle.rules.specs.declared.Shape.{Shape}
use Rattle.rules.proofs.Tests.{and_l, and_r, and_both, pick_true, pick_false}
use Rattle.places.specs.Layout.{start_of, Sized}
use Rattle.places.proofs.Sections.{fits}
use Rattle.places.proofs.Fields.{fields, view_of}
use Rattle.readers.specs.Said.{nothing, field_of, entry_field_of, is_sized, field_in, group_view_in, entry_in}

-- a field that was asked for by its number
pub asked : (f : ℕ → ℕ) (field k r : ℕ) → field ≡ k → r ≡ f k → r ≡ f field
asked f field k r e h = h ∙ ap f (sym e)

-- ---- the leader, in bytes of the right length

module _ (sh : Shape) (b : List ℕ) (size : length b ≡ state_length sh) where
  module _ (group : ℕ) (e : group ≡ num b 0 1) where
    own_group : group ≡ (state_of sh b).site.group
    own_group = e ∙ sym (fields sh b size).group

    pub no_leader : sh.s ≤ group → 0 ≡ leader sh.n (state_of sh b).view.g_vec (state_of sh b).site.group
    no_leader l =
        let g : List ℕ = (state_of sh b).view.g_vec in
        let n : length g ≡ sh.s = ap length (fields sh b size).g_vec ∙ length_items (λ a. num b a 4) 4 (start_of sh at_gvec) sh.s in
        let z : get_or g group 0 ≡ 0 = get_or-eq_default g 0 {n = group} (omega arith) in
        sym (ap (λ (j : ℕ). get_or g j 0 % sh.n) (sym own_group) ∙ ap (λ (v : ℕ). v % sh.n) z ∙ zero-mod sh.n)

    pub the_leader : (view : ℕ) → group < sh.s → view ≡ num b (start_of sh at_gvec + 4 * group) 4 → view % sh.n ≡ leader sh.n (state_of sh b).view.g_vec (state_of sh b).site.group
    the_leader view l q =
        ap (λ (v : ℕ). v % sh.n) (q ∙ sym (view_of sh b size group l))
        ∙ ap (λ (j : ℕ). get_or (state_of sh b).view.g_vec j 0 % sh.n) own_group

module _ (sh : Shape) (b : List ℕ) where
  -- ---- whether the bytes are as many as a state has

  pub wrong_shape : (fit : Bool) → fit ≡ shape_fits sh → not fit ≡ true → false ≡ is_sized sh b
  wrong_shape fit e h = let g : shape_fits sh ≡ false = sym e ∙ not-true fit h in simp g

  pub right_shape : (fit : Bool) (end : ℕ) → fit ≡ shape_fits sh → not fit ≡ false → end ≡ state_length sh → eqb (length b) end ≡ is_sized sh b
  right_shape fit end e h l = let g : shape_fits sh ≡ true = sym e ∙ not-false fit h in simp (g, l)

  module _ (is : Bool) (e : is ≡ is_sized sh b) where
    module _ (h : not is ≡ true) where
      no_size : is_sized sh b ≡ false
      no_size = sym e ∙ not-true is h

      pub no_field : (field : ℕ) → nothing ≡ field_in sh b field
      unfolding field_in
      no_field field = sym (pick_false (is_sized sh b) (field_of sh (state_of sh b) field) nothing no_size)

      pub no_view : (group : ℕ) → nothing ≡ group_view_in sh b group
      unfolding group_view_in pick
      no_view group = let g = no_size in simp g

      pub no_entry : (position field : ℕ) → nothing ≡ entry_in sh b position field
      unfolding entry_in pick
      no_entry position field = let g = no_size in simp g

    module _ (h : not is ≡ false) where
      right_size : is_sized sh b ≡ true
      right_size = sym e ∙ not-false is h

      pub sized : Sized sh b
      sized =
          record {
            fits = fits sh (and_l (shape_fits sh) (eqb (length b) (state_length sh)) right_size);
            size = eqb-true (length b) (state_length sh) (and_r (shape_fits sh) (eqb (length b) (state_length sh)) right_size);
          }

      pub the_field : (field r : ℕ) → r ≡ field_of sh (state_of sh b) field → r ≡ field_in sh b field
      unfolding field_in
      the_field field r q = q ∙ sym (pick_true (is_sized sh b) (field_of sh (state_of sh b) field) nothing right_size)

      -- ---- a group's view
      pub past_groups : (group : ℕ) → sh.s ≤ group → nothing ≡ group_view_in sh b group
      unfolding group_view_in pick
      past_groups group l = let g = right_size in let t : ltb group sh.s ≡ false = le-ltb group sh.s l in simp (g, t)

      pub the_view : (group r : ℕ) → group < sh.s → r ≡ num b (start_of sh at_gvec + 4 * group) 4 → r ≡ group_view_in sh b group
      unfolding group_view_in
      the_view group r l q =
          q
          ∙ sym (view_of sh b sized.size group l)
          ∙ sym (pick_true (is_sized sh b && ltb group sh.s) (get_or (state_of sh b).view.g_vec group 0) nothing (and_both (is_sized sh b) (ltb group sh.s) right_size (lt-ltb group sh.s l)))

      -- ---- an entry of the log
      pub before_first : (position field : ℕ) → position < 1 → nothing ≡ entry_in sh b position field
      unfolding entry_in pick
      before_first position field l = let g = right_size in let t : leb 1 position ≡ false = lt-leb 1 position l in simp (g, t)

      module _ (position field len : ℕ) (p : len ≡ length (state_of sh b).logged.log) (f : 1 ≤ position) where
        pub past_last : len < position → nothing ≡ entry_in sh b position field
        unfolding entry_in pick
        past_last l =
            let g = right_size in
            let t : leb 1 position ≡ true = le-leb 1 position f in
            let u : leb position (length (state_of sh b).logged.log) ≡ false = lt-leb position (length (state_of sh b).logged.log) (omega arith) in
            simp (g, t, u)

        pub the_entry : (r : ℕ) (entry : Entry) → position ≤ len → entry ≡ entry_of (state_of sh b).logged.log (position - 1) → r ≡ entry_field_of entry field → r ≡ entry_in sh b position field
        unfolding entry_in
        the_entry r entry l q w =
            let st : State = state_of sh b in
            let t : (leb 1 position && leb position (length st.logged.log)) ≡ true = and_both (leb 1 position) _ (le-leb 1 position f) (le-leb position (length st.logged.log) (omega arith)) in
            w
            ∙ ap (λ (x : Entry). entry_field_of x field) q
            ∙ sym (pick_true (is_sized sh b && (leb 1 position && leb position (length st.logged.log))) (entry_field_of (entry_of st.logged.log (position - 1)) field) nothing (and_both (is_sized sh b) _ right_size t))
