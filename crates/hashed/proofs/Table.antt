-- The table of rows by key: a path, a turn at a time; what a store keeps; what a table with every row says.
use mathlib.Core.Path.{◌≡◌, ◌∙◌, ap, refl, sym}
use mathlib.Core.Bool.{Bool, true, false, ◌||◌, or-true}
use mathlib.Core.List.{List, [], ◌∷◌}
use Prim.Native.Nat.{ℕ, zero, suc, ◌+◌, ◌<◌, ◌≤◌}
use native.Mathlib.Decide.{dec_lt}
use native.Mathlib.Omega.{arith}
use borrow.Author.Tests.{eq-eqb, ne_eqb, eqb-true, le-leb, lt-leb, leb-false}
use lib.Dec.{eqb, leb}
use lib.ListN.{length, get_or, set, replicate, length-set, get_or-eq_default}
use Rattle.std.proofs.lemmas.List.{get_or-replicate}
use lib.Seq.{get_or-set_same, get_or-set_other}
use Rattle.rules.specs.Choice.{pick}
use Rattle.repeats.specs.Repeat.{row_of, Distinct}
use Rattle.hashed.specs.Table.{slot_of, ends, stop, slot_at, held, Holds, Empty, Laid}
use Rattle.repeats.proofs.Laws.{row_is, seen_hit, repeat_here, distinct_repeat}

-- what stands inside does not ask for a default
inside : (t : List ℕ) (p d e : ℕ) → p < length t → get_or t p d ≡ get_or t p e
inside [] p d e h = absurd (omega arith)
inside (x ∷ t) zero d e h = refl
inside (x ∷ t) (suc p) d e h = inside t p d e (omega arith)

module _ (key : ℕ → ℕ) (m : ℕ) where
  -- ---- a slot at which a path ends, or does not
  pub ends_free : (t : List ℕ) (x p : ℕ) → m ≤ get_or t p m → ends key m t x p ≡ true
  unfolding ends
  ends_free t x p h = simp (le-leb m (get_or t p m) h)

  pub ends_row : (t : List ℕ) (x p : ℕ) → key (get_or t p m) ≡ x → ends key m t x p ≡ true
  unfolding ends
  ends_row t x p h = simp (eq-eqb (key (get_or t p m)) x h, or-true)

  pub ends_not : (t : List ℕ) (x p : ℕ) → get_or t p m < m → (key (get_or t p m) ≡ x → ⊥) → ends key m t x p ≡ false
  unfolding ends
  ends_not t x p h d = simp (lt-leb m (get_or t p m) h, ne_eqb (key (get_or t p m)) x d)

  taken_of : (e x : ℕ) (a : Bool) → leb m e ≡ a → (a || eqb (key e) x) ≡ false → e < m
  taken_of e x true ea h = let y : ◌≡◌ {A = ℕ} 0 1 = cc in absurd (omega arith)
  taken_of e x false ea h = leb-false m e ea

  not_free : (t : List ℕ) (x p : ℕ) → ends key m t x p ≡ false → get_or t p m < m
  unfolding ends
  not_free t x p h = taken_of (get_or t p m) x (leb m (get_or t p m)) refl h

  row_of_lem : (e x : ℕ) → e < m → (leb m e || eqb (key e) x) ≡ true → key e ≡ x
  row_of_lem e x l h = eqb-true (key e) x (simp (lt-leb m e l) at h)

  taken_ends : (t : List ℕ) (x p : ℕ) → get_or t p m < m → ends key m t x p ≡ true → key (get_or t p m) ≡ x
  unfolding ends
  taken_ends t x p l h = row_of_lem (get_or t p m) x l h

  -- ---- a path, a turn at a time
  pub stop_here : (t : List ℕ) (x p n l : ℕ) → n ≡ suc l → ends key m t x p ≡ true → stop key m t x p n ≡ p
  unfolding stop pick
  stop_here t x p n l e h = rw e (simp h)

  pub stop_next : (t : List ℕ) (x p n l : ℕ) → n ≡ suc l → ends key m t x p ≡ false → stop key m t x p n ≡ stop key m t x (p + 1) l
  unfolding stop pick
  stop_next t x p n l e h = rw e (simp h)

  pub stop_none : (t : List ℕ) (x p n : ℕ) → n ≡ 0 → stop key m t x p n ≡ length t
  unfolding stop
  stop_none t x p n e = rw e

  module _ (t : List ℕ) (x : ℕ) where
    -- slot p, which holds e, is free
    pub path_free : (p n l e : ℕ) → n ≡ suc l → p < length t → e ≡ get_or t p 0 → m ≤ e → p ≡ stop key m t x p n
    path_free p n l e en h ee f =
        let z : get_or t p 0 ≡ get_or t p m = inside t p 0 m h in
        sym (stop_here t x p n l en (ends_free t x p (omega arith)))

    -- it holds the row of x
    pub path_row : (p n l e : ℕ) → n ≡ suc l → p < length t → e ≡ get_or t p 0 → key e ≡ x → p ≡ stop key m t x p n
    path_row p n l e en h ee f =
        let z : get_or t p m ≡ e = inside t p m 0 h ∙ sym ee in
        sym (stop_here t x p n l en (ends_row t x p (ap key z ∙ f)))

    -- it holds another row
    pub path_on : (p n l e : ℕ) → n ≡ suc l → p < length t → e ≡ get_or t p 0 → e < m → (key e ≡ x → ⊥) → stop key m t x (p + 1) l ≡ stop key m t x p n
    path_on p n l e en h ee f d =
        let z : get_or t p m ≡ e = inside t p m 0 h ∙ sym ee in
        sym (stop_next t x p n l en (ends_not t x p (omega arith) (λ q. d (ap key (sym z) ∙ q))))

  -- a path that ends inside ends at a slot that ends it
  ends_turn : (t : List ℕ) (x p n : ℕ) → (stop key m t x (p + 1) n < length t → ends key m t x (stop key m t x (p + 1) n) ≡ true) → (b : Bool) → ends key m t x p ≡ b → stop key m t x p (suc n) < length t → ends key m t x (stop key m t x p (suc n)) ≡ true
  ends_turn t x p n ih true e h = rw (stop_here t x p (suc n) n refl e) e
  ends_turn t x p n ih false e h =
      rw (stop_next t x p (suc n) n refl e) (ih (rw (stop_next t x p (suc n) n refl e) at h))

  stop_ends : (t : List ℕ) (x p n : ℕ) → stop key m t x p n < length t → ends key m t x (stop key m t x p n) ≡ true
  stop_ends t x p zero h = let z : stop key m t x p 0 ≡ length t = stop_none t x p 0 refl in absurd (omega arith)
  stop_ends t x p (suc n) h = ends_turn t x p n (stop_ends t x (p + 1) n) (ends key m t x p) refl h

  -- a path ends where it did, where no slot that it passed ends it now, and its end still does
  kept_turn : (t u : List ℕ) (x p n : ℕ) → (ends key m t x p ≡ false → ends key m u x p ≡ false) → (ends key m u x (stop key m t x (p + 1) n) ≡ true → stop key m u x (p + 1) n ≡ stop key m t x (p + 1) n) → (b : Bool) → ends key m t x p ≡ b → ends key m u x (stop key m t x p (suc n)) ≡ true → stop key m u x p (suc n) ≡ stop key m t x p (suc n)
  kept_turn t u x p n h ih true e k =
      let z : stop key m t x p (suc n) ≡ p = stop_here t x p (suc n) n refl e in
      stop_here u x p (suc n) n refl (rw z at k) ∙ sym z
  kept_turn t u x p n h ih false e k =
      let z : stop key m t x p (suc n) ≡ stop key m t x (p + 1) n = stop_next t x p (suc n) n refl e in
      stop_next u x p (suc n) n refl (h e) ∙ ih (rw z at k) ∙ sym z

  stop_kept : (t u : List ℕ) (x : ℕ) → length u ≡ length t → ((p : ℕ) → ends key m t x p ≡ false → ends key m u x p ≡ false) → (n p : ℕ) → ends key m u x (stop key m t x p n) ≡ true → stop key m u x p n ≡ stop key m t x p n
  stop_kept t u x l h zero p k = stop_none u x p 0 refl ∙ l ∙ sym (stop_none t x p 0 refl)
  stop_kept t u x l h (suc n) p k = kept_turn t u x p n (h p) (stop_kept t u x l h n (p + 1)) (ends key m t x p) refl k

-- the path of x ends at slot q, which is free
pub record Free (key : ℕ → ℕ) (m : ℕ) (t : List ℕ) (x q : ℕ) : Type 0 where
  pub ends : q ≡ slot_at key m t x
  pub inside : q < length t
  pub free : m ≤ get_or t q 0

-- row i went in: no taken slot was changed, and the table has it for its key
pub record Went (key : ℕ → ℕ) (m i : ℕ) (t u : List ℕ) : Type 0 where
  pub kept : (p : ℕ) → get_or t p m < m → get_or u p m ≡ get_or t p m
  pub here : held key m u (key i) ≡ i

module _ (key : ℕ → ℕ) (m : ℕ) where
  -- a path begins
  pub path_starts : (t : List ℕ) (x p n : ℕ) → p ≡ slot_of (length t) x → n ≡ 64 → stop key m t x p n ≡ slot_at key m t x
  unfolding slot_at
  path_starts t x p n e f = rw (e, f)

  module _ (t u : List ℕ) (l : length u ≡ length t) (w : (p : ℕ) → get_or t p m < m → get_or u p m ≡ get_or t p m) where
    still_not : (x p : ℕ) → ends key m t x p ≡ false → ends key m u x p ≡ false
    unfolding ends
    still_not x p h = rw (w p (not_free key m t x p h)) h

    slot_kept : (x : ℕ) → ends key m u x (slot_at key m t x) ≡ true → slot_at key m u x ≡ slot_at key m t x
    unfolding slot_at
    slot_kept x h = rw l (stop_kept key m t u x l (still_not x) 64 (slot_of (length t) x) h)

    -- what the table has, it has still
    held_kept : (i : ℕ) → i < m → held key m t (key i) ≡ i → held key m u (key i) ≡ i
    unfolding held
    held_kept i h e =
        let p : ℕ = slot_at key m t (key i) in
        let v : get_or u p m ≡ i = w p (rw e h) ∙ e in
        ap (λ (q : ℕ). get_or u q m) (slot_kept (key i) (ends_row key m u (key i) p (ap key v))) ∙ v

  -- ---- the free slot q at the end of a path: where it begins, or further on
  pub free_first : (t : List ℕ) (x p e q : ℕ) → p ≡ slot_of (length t) x → p + 64 ≤ length t → e ≡ get_or t p 0 → m ≤ e → q ≡ p → Free key m t x q
  unfolding slot_at
  free_first t x p e q ep l ee f eq =
      let z : p ≡ slot_at key m t x = path_free key m t x p 64 63 e (omega arith) (omega arith) ee f ∙ ap (λ (r : ℕ). stop key m t x r 64) ep in
      record { ends = eq ∙ z; inside = omega arith; free = rw eq (omega arith) }

  pub free_further : (t : List ℕ) (x p e q : ℕ) → p ≡ slot_at key m t x → p < length t → e ≡ get_or t p 0 → m ≤ e → q ≡ p → Free key m t x q
  free_further t x p e q ep l ee f eq = record { ends = eq ∙ ep; inside = omega arith; free = rw eq (omega arith) }

  -- ---- a store into the free slot at the end of its path
  went : (t : List ℕ) (i x p : ℕ) → i < m → x ≡ key i → p ≡ slot_at key m t x → p < length t → m ≤ get_or t p 0 → Went key m i t (set t p i)
  unfolding held
  went t i x p h ex ep l f =
      let z : get_or t p 0 ≡ get_or t p m = inside t p 0 m l in
      let v : get_or (set t p i) p m ≡ i = get_or-set_same t p i m l in
      let k : (q : ℕ) → get_or t q m < m → get_or (set t p i) q m ≡ get_or t q m = λ q g. get_or-set_other t p q i m (λ e. let y : get_or t q m ≡ get_or t p m = ap (λ (r : ℕ). get_or t r m) e in absurd (omega arith)) in
      let s : slot_at key m t (key i) ≡ p = ap (slot_at key m t) (sym ex) ∙ sym ep in
      record {
        kept = k;
        here = ap (λ (q : ℕ). get_or (set t p i) q m)
            (slot_kept t (set t p i) (length-set t p i) k (key i) (rw s (ends_row key m (set t p i) (key i) p (ap key v))) ∙ s) ∙ v;
      }

  -- ---- the first i rows are there, each for its key
  pub holds_none : (t : List ℕ) → Holds key m t 0
  unfolding Holds
  holds_none t j h = absurd (omega arith)

  holds_last : (u : List ℕ) (i j : ℕ) → (j < i → held key m u (key j) ≡ j) → held key m u (key i) ≡ i → j < i + 1 → Dec (j < i) → held key m u (key j) ≡ j
  holds_last u i j old new l (yes h) = old h
  holds_last u i j old new l (no h) = let e : j ≡ i = omega (arith, h) in rw e new

  -- one row more, in the free slot at the end of its path
  pub holds_more : (t : List ℕ) (i x p : ℕ) → i < m → x ≡ key i → p ≡ slot_at key m t x → p < length t → m ≤ get_or t p 0 → Holds key m t i → Holds key m (set t p i) (i + 1)
  unfolding Holds
  holds_more t i x p h ex ep l f g j k =
      let w : Went key m i t (set t p i) = went t i x p h ex ep l f in
      holds_last (set t p i) i j (λ n. held_kept t (set t p i) (length-set t p i) w.kept j (omega arith) (g j n)) w.here k (dec_lt j i)

  -- a key has one row only
  pub holds_distinct : (t : List ℕ) (i : ℕ) → Holds key m t i → Distinct key i
  unfolding Distinct Holds
  holds_distinct t n w i j hi hj e = sym (w i hi) ∙ ap (held key m t) e ∙ w j hj

  -- ---- what a table with every row says
  module _ (t : List ℕ) (w : Holds key m t m) where
    none_held : (x : ℕ) → m ≤ held key m t x → m ≡ row_of key x m
    unfolding Holds
    none_held x h =
        sym (row_is key x m m (omega arith)
        (λ i k e. let z : held key m t x ≡ i = ap (held key m t) (sym e) ∙ w i k in omega arith)
        (λ k. absurd (omega arith)))

    -- the path of x runs out of slots
    pub find_out : (x p : ℕ) → p ≡ slot_at key m t x → length t ≤ p → m ≡ row_of key x m
    unfolding held
    find_out x p e h =
        let z : held key m t x ≡ m = ap (λ (q : ℕ). get_or t q m) (sym e) ∙ get_or-eq_default t m {n = p} h in
        none_held x (omega arith)

    -- it ends at a free slot
    pub find_free : (x p e : ℕ) → p ≡ slot_at key m t x → p < length t → e ≡ get_or t p 0 → m ≤ e → m ≡ row_of key x m
    unfolding held
    find_free x p e ep l ee h =
        let z : held key m t x ≡ e = ap (λ (q : ℕ). get_or t q m) (sym ep) ∙ inside t p m 0 l ∙ sym ee in
        none_held x (omega arith)

  -- a path that ends at a taken slot ends at the row of its key
  row_there : (t : List ℕ) (x p e : ℕ) → p ≡ slot_at key m t x → p < length t → e ≡ get_or t p 0 → e < m → key e ≡ x
  unfolding slot_at
  row_there t x p e ep l ee h =
      let z : get_or t p m ≡ e = inside t p m 0 l ∙ sym ee in
      let s : ends key m t x p ≡ true = rw ep (stop_ends key m t x (slot_of (length t) x) 64 (rw (← ep) l)) in
      ap key (sym z) ∙ taken_ends key m t x p (omega arith) s

  -- where every row is in, that is the row
  pub find_row : (t : List ℕ) → Holds key m t m → (x p e : ℕ) → p ≡ slot_at key m t x → p < length t → e ≡ get_or t p 0 → e < m → e ≡ row_of key x m
  unfolding held Holds
  find_row t w x p e ep l ee h =
      let y : held key m t x ≡ e = ap (λ (q : ℕ). get_or t q m) (sym ep) ∙ inside t p m 0 l ∙ sym ee in
      sym (row_is key x m e (omega arith)
      (λ i k q. let v : held key m t x ≡ i = ap (held key m t) (sym q) ∙ w i (omega arith) in omega arith)
      (λ k. row_there t x p e ep l ee h))

-- ---- a table that is emptied

pub free_all : (t : List ℕ) (n : ℕ) → length t ≡ n → t ≡ replicate n 65535 → Empty t
unfolding Empty
free_all t n l e p h = rw e (get_or-replicate n p 65535 0 (omega arith))

-- ---- rows laid into a table, one after the other

-- a slot that is taken holds one of the first i rows
unfoldable pub Only : ℕ → List ℕ → ℕ → Type 0
Only m t i = (p : ℕ) → p < length t → get_or t p 0 < m → get_or t p 0 < i

module _ (m : ℕ) where
  pub only_none : (t : List ℕ) (i : ℕ) → m ≤ 65535 → Empty t → Only m t i
  unfolding Only Empty
  only_none t i h e p l k = absurd (omega (arith, e p l))

  only_set : (t : List ℕ) (i p q : ℕ) → p < length t → Only m t i → q < length t → get_or (set t p i) q 0 < m → Dec (q < p) → Dec (p < q) → get_or (set t p i) q 0 < i + 1
  unfolding Only
  only_set t i p q lp w lq h (yes n) d =
      let z : get_or (set t p i) q 0 ≡ get_or t q 0 = get_or-set_other t p q i 0 (λ e. omega arith) in
      omega (arith, w q lq (omega arith))
  only_set t i p q lp w lq h (no n) (yes k) =
      let z : get_or (set t p i) q 0 ≡ get_or t q 0 = get_or-set_other t p q i 0 (λ e. omega arith) in
      omega (arith, w q lq (omega arith))
  only_set t i p q lp w lq h (no n) (no k) =
      let e : q ≡ p = omega (arith, n, k) in
      let z : get_or (set t p i) q 0 ≡ i = ap (λ (r : ℕ). get_or (set t p i) r 0) e ∙ get_or-set_same t p i 0 lp in
      omega arith

  pub only_more : (t : List ℕ) (i p : ℕ) → p < length t → Only m t i → Only m (set t p i) (i + 1)
  unfolding Only
  only_more t i p l w q lq h =
      let lt : q < length t = omega (arith, length-set t p i) in
      only_set t i p q l w lt h (dec_lt q p) (dec_lt p q)

module _ (key : ℕ → ℕ) (m : ℕ) (t₀ : List ℕ) where
  -- all are in
  pub laid_all : (u : List ℕ) (r i : ℕ) → r ≡ m → i ≡ m → Holds key m u i → Laid key m t₀ u r
  laid_all u r i er ei w =
      let v : Holds key m u m = rw ei at w in
      record { placed = λ e l. er ∙ sym (distinct_repeat key m (holds_distinct key m u m v)); whole = λ e. v }

  -- row i meets its own key
  pub laid_again : (u : List ℕ) (i x p e : ℕ) → i < m → x ≡ key i → p ≡ slot_at key m u x → p < length u → e ≡ get_or u p 0 → e < m → Holds key m u i → (Empty t₀ → Only m u i) → Laid key m t₀ u i
  unfolding Only
  laid_again u i x p e h ex ep l ee k w o =
      record {
        placed = λ n q.
            let lo : e < i = let y : get_or u p 0 < i = o n p l (omega arith) in omega arith in
            sym (repeat_here key m i h (distinct_repeat key i (holds_distinct key m u i w)) (seen_hit key (key i) e i lo (row_there key m u x p e ep l ee k ∙ ex)));
        whole = λ q. absurd (omega arith);
      }

-- ---- a table asks for the first m keys alone

module _ (key other : ℕ → ℕ) (m : ℕ) (h : (i : ℕ) → i < m → key i ≡ other i) where
  or_agree : (e x : ℕ) (a : Bool) → leb m e ≡ a → (a || eqb (key e) x) ≡ (a || eqb (other e) x)
  or_agree e x true ea = refl
  or_agree e x false ea = rw (h e (leb-false m e ea))

  ends_agree : (t : List ℕ) (x p : ℕ) → ends key m t x p ≡ ends other m t x p
  unfolding ends
  ends_agree t x p = or_agree (get_or t p m) x (leb m (get_or t p m)) refl

  stop_agree : (t : List ℕ) (x n p : ℕ) → stop key m t x p n ≡ stop other m t x p n
  unfolding stop
  stop_agree t x zero p = refl
  stop_agree t x (suc n) p = rw (ends_agree t x p, stop_agree t x n (p + 1))

  held_agree : (t : List ℕ) (x : ℕ) → held key m t x ≡ held other m t x
  unfolding held slot_at
  held_agree t x = ap (λ (p : ℕ). get_or t p m) (stop_agree t x 64 (slot_of (length t) x))

  pub holds_agree : (t : List ℕ) → Holds key m t m → Holds other m t m
  unfolding Holds
  holds_agree t w i k = sym (held_agree t (other i)) ∙ ap (held key m t) (sym (h i k)) ∙ w i k

-- ---- a table of m rows, where it is to have w

module _ (key : ℕ → ℕ) (m w : ℕ) (h : m ≤ w) (t : List ℕ) where
  taken_inside : (p : ℕ) → get_or t p m < m → Dec (p < length t) → p < length t
  taken_inside p l (yes k) = k
  taken_inside p l (no k) = let z : get_or t p m ≡ m = get_or-eq_default t m {n = p} (omega (arith, k)) in absurd (omega arith)

  taken_wider : (p : ℕ) → get_or t p m < m → get_or t p w ≡ get_or t p m
  taken_wider p l = inside t p w m (taken_inside p l (dec_lt p (length t)))

  -- a slot that is taken ends the same paths
  ends_wider : (x p : ℕ) → get_or t p m < m → ends key w t x p ≡ ends key m t x p
  unfolding ends
  ends_wider x p l = rw (taken_wider p l, lt-leb w (get_or t p m) (omega arith), lt-leb m (get_or t p m) l)

  wider_turn : (x p n : ℕ) → (get_or t (stop key m t x (p + 1) n) m < m → stop key w t x (p + 1) n ≡ stop key m t x (p + 1) n) → (b : Bool) → ends key m t x p ≡ b → get_or t (stop key m t x p (suc n)) m < m → stop key w t x p (suc n) ≡ stop key m t x p (suc n)
  wider_turn x p n ih true e l =
      let z : stop key m t x p (suc n) ≡ p = stop_here key m t x p (suc n) n refl e in
      stop_here key w t x p (suc n) n refl (ends_wider x p (rw z at l) ∙ e) ∙ sym z
  wider_turn x p n ih false e l =
      let z : stop key m t x p (suc n) ≡ stop key m t x (p + 1) n = stop_next key m t x p (suc n) n refl e in
      stop_next key w t x p (suc n) n refl (ends_wider x p (not_free key m t x p e) ∙ e) ∙ ih (rw z at l) ∙ sym z

  -- so does a path that ends at one
  stop_wider : (x n p : ℕ) → get_or t (stop key m t x p n) m < m → stop key w t x p n ≡ stop key m t x p n
  stop_wider x zero p l = stop_none key w t x p 0 refl ∙ sym (stop_none key m t x p 0 refl)
  stop_wider x (suc n) p l = wider_turn x p n (stop_wider x n (p + 1)) (ends key m t x p) refl l

  held_wider : (x : ℕ) → held key m t x < m → held key w t x ≡ held key m t x
  unfolding held slot_at
  held_wider x l =
      ap (λ (p : ℕ). get_or t p w) (stop_wider x 64 (slot_of (length t) x) l) ∙ taken_wider (stop key m t x (slot_of (length t) x) 64) l

  -- the m rows are there, whatever the slots that were free hold
  pub holds_wider : Holds key m t m → Holds key w t m
  unfolding Holds
  holds_wider f j l = held_wider (key j) (rw (f j l) l) ∙ f j l
