-- The first number that passes a test; and with it the first key that repeats an earlier one, and the row of a key.
use mathlib.Core.Path.{◌≡◌, ◌∙◌, ap, refl, sym}
use mathlib.Core.Bool.{Bool, true, false, ◌&&◌, ◌||◌, not, or-true}
use Prim.Native.Nat.{ℕ, zero, suc, ◌+◌, ◌<◌, ◌≤◌}
use native.Mathlib.Decide.{dec_lt}
use native.Mathlib.Numerals.{add-one}
use native.Mathlib.Omega.{arith}
use borrow.Author.Tests.{eq-eqb, ne_eqb, eqb-true, eqb-false}
use lib.Dec.{eqb}
use Rattle.rules.specs.Choice.{pick}
use Rattle.repeats.specs.Repeat.{seen_key, first_to, repeat_place, row_of, Distinct}

-- ---- the first that passes

-- n is the first below m: nothing before it passes, and it does, or is the end
pub record First (p : ℕ → Bool) (m n : ℕ) : Type 0 where
  pub low : n ≤ m
  pub before : (i : ℕ) → i < n → p i ≡ false
  pub at : n < m → p n ≡ true

module _ (p : ℕ → Bool) where
  on : (m : ℕ) → first_to p m ≡ m → p m ≡ false → first_to p (suc m) ≡ suc m
  unfolding first_to pick
  on m e f = simp (eq-eqb _ _ e, f)

  here : (m : ℕ) → first_to p m ≡ m → p m ≡ true → first_to p (suc m) ≡ m
  unfolding first_to pick
  here m e f = simp (eq-eqb _ _ e, f) e

  past : (m : ℕ) → first_to p m < m → first_to p (suc m) ≡ first_to p m
  unfolding first_to pick
  past m h = simp (ne_eqb (first_to p m) m (λ e. omega arith))

  before_last : (m i : ℕ) → (i < m → p i ≡ false) → p m ≡ false → i < suc m → Dec (i < m) → p i ≡ false
  before_last m i h e l (yes k) = h k
  before_last m i h e l (no k) = let z : i ≡ m = omega (arith, k) in ap p z ∙ e

  first_step : (m : ℕ) → First p m (first_to p m) → Dec (first_to p m < m) → (t : Bool) → p m ≡ t → First p (suc m) (first_to p (suc m))
  first_step m w (yes l) t e =
      let q : first_to p m ≤ m = w.low in
      rw (past m l) (record { low = omega arith; before = w.before; at = λ _. w.at l })
  first_step m w (no l) true e =
      let q : first_to p m ≤ m = w.low in
      let z : first_to p m ≡ m = omega (arith, l) in
      rw (here m z e) (record { low = omega arith; before = λ i k. w.before i (omega arith); at = λ _. e })
  first_step m w (no l) false e =
      let q : first_to p m ≤ m = w.low in
      let z : first_to p m ≡ m = omega (arith, l) in
      rw (on m z e) (record {
        low = omega arith;
        before = λ i k. before_last m i (λ h. w.before i (omega arith)) e k (dec_lt i m);
        at = λ h. absurd (omega arith);
      })

  first_zero : First p 0 (first_to p 0)
  unfolding first_to
  first_zero = record { low = omega arith; before = λ i k. absurd (omega arith); at = λ k. absurd (omega arith) }

  pub first_to_lem : (m : ℕ) → First p m (first_to p m)
  first_to_lem zero = first_zero
  first_to_lem (suc m) = first_step m (first_to_lem m) (dec_lt (first_to p m) m) (p m) refl

  clash : (n : ℕ) → p n ≡ true → p n ≡ false → ⊥
  clash n e f = let z : ◌≡◌ {A = Bool} true false = sym e ∙ f in let y : ◌≡◌ {A = ℕ} 0 1 = cc in omega arith

  only : (m a b : ℕ) → First p m a → First p m b → Dec (a < b) → Dec (b < a) → a ≡ b
  only m a b v w (yes l) d = absurd (clash a (v.at (omega (arith, w.low))) (w.before a l))
  only m a b v w (no l) (yes k) = absurd (clash b (w.at (omega (arith, v.low))) (v.before b k))
  only m a b v w (no l) (no k) = omega (arith, l, k)

  pub first_is : (m n : ℕ) → First p m n → first_to p m ≡ n
  first_is m n w = only m (first_to p m) n (first_to_lem m) w (dec_lt (first_to p m) n) (dec_lt n (first_to p m))

-- ---- a search for it, a turn at a time

module _ (p : ℕ → Bool) where
  pub first_start : first_to p 0 ≡ 0
  unfolding first_to
  first_start = refl

  -- none of the first i passes, nor does i
  pub first_pass : (i : ℕ) → first_to p i ≡ i → p i ≡ false → first_to p (i + 1) ≡ i + 1
  first_pass i e f = rw (add-one i) (on p i e f)

  -- none of the first i passes, and i does
  pub first_stop : (i n : ℕ) → first_to p i ≡ i → p i ≡ true → i < n → i ≡ first_to p n
  first_stop i n e f l =
      sym (first_is p n i (record { low = omega arith; before = λ j k. (first_to_lem p i).before j (omega arith); at = λ _. f }))

  -- all were looked at
  pub first_end : (i n : ℕ) → first_to p i ≡ i → i ≤ n → n ≤ i → n ≡ first_to p n
  first_end i n e l h = let q : i ≡ n = omega arith in rw q at (sym e)

pub first_agree : (p q : ℕ → Bool) (m : ℕ) → ((i : ℕ) → i < m → p i ≡ q i) → first_to p m ≡ first_to q m
first_agree p q m h =
    let w : First q m (first_to q m) = first_to_lem q m in
    first_is p m (first_to q m) (record {
      low = w.low;
      before = λ i k. h i (omega (arith, w.low)) ∙ w.before i k;
      at = λ k. h (first_to q m) k ∙ w.at k;
    })

-- ---- a key among the first

module _ (key : ℕ → ℕ) (x : ℕ) where
  pub seen_start : seen_key key x 0 ≡ false
  unfolding seen_key
  seen_start = refl

  pub seen_more : (j : ℕ) → seen_key key x j ≡ false → (key j ≡ x → ⊥) → seen_key key x (j + 1) ≡ false
  unfolding seen_key
  seen_more j h e = rw (add-one j) (simp (h, ne_eqb _ _ e))

  hit_last : (j n : ℕ) → (j < n → seen_key key x n ≡ true) → j < suc n → key j ≡ x → Dec (j < n) → seen_key key x (suc n) ≡ true
  unfolding seen_key
  hit_last j n ih h e (yes l) = simp (ih l)
  hit_last j n ih h e (no l) = let z : n ≡ j = omega (arith, l) in simp (eq-eqb _ _ (ap key z ∙ e), or-true)

  pub seen_hit : (j n : ℕ) → j < n → key j ≡ x → seen_key key x n ≡ true
  seen_hit j zero h e = absurd (omega arith)
  seen_hit j (suc n) h e = hit_last j n (λ l. seen_hit j n l e) h e (dec_lt j n)

  pub seen_none : (n : ℕ) → ((j : ℕ) → j < n → key j ≡ x → ⊥) → seen_key key x n ≡ false
  seen_none zero h = seen_start
  seen_none (suc n) h = rw (← add-one n) (seen_more n (seen_none n (λ j l. h j (omega arith))) (h n (omega arith)))

-- one of the first n keys is x, and which
pub record Earlier (key : ℕ → ℕ) (x n : ℕ) : Type 0 where
  pub row : ℕ
  pub low : row < n
  pub same : key row ≡ x

module _ (key : ℕ → ℕ) (x : ℕ) where
  earlier_step : (n : ℕ) → (seen_key key x n ≡ true → Earlier key x n) → (s t : Bool) → seen_key key x n ≡ s → eqb (key n) x ≡ t → (s || t) ≡ true → Earlier key x (suc n)
  earlier_step n ih true t es et h =
      let w : Earlier key x n = ih es in
      record { row = w.row; low = omega (arith, w.low); same = w.same }
  earlier_step n ih false true es et h = record { row = n; low = omega arith; same = eqb-true _ _ et }
  earlier_step n ih false false es et h = let y : ◌≡◌ {A = ℕ} 0 1 = cc in absurd (omega arith)

  pub seen_earlier : (n : ℕ) → seen_key key x n ≡ true → Earlier key x n
  unfolding seen_key
  seen_earlier zero h = let y : ◌≡◌ {A = ℕ} 0 1 = cc in absurd (omega arith)
  seen_earlier (suc n) h = earlier_step n (seen_earlier n) (seen_key key x n) (eqb (key n) x) refl refl h

pub seen_agree : (key other : ℕ → ℕ) (x n : ℕ) → ((i : ℕ) → i < n → key i ≡ other i) → seen_key key x n ≡ seen_key other x n
unfolding seen_key
seen_agree key other x zero h = refl
seen_agree key other x (suc n) h = rw (seen_agree key other x n (λ i l. h i (omega arith)), h n (omega arith))

-- ---- the first key that repeats an earlier one

-- key i stands among those before it
abbrev pub again : (ℕ → ℕ) → ℕ → Bool
again key i = seen_key key (key i) i

module _ (key : ℕ → ℕ) where
  pub repeat_step : (i : ℕ) → repeat_place key (suc i) ≡ pick (eqb (repeat_place key i) i && not (seen_key key (key i) i)) (suc i) (repeat_place key i)
  unfolding repeat_place first_to
  repeat_step i = refl

  pub repeat_first : (m : ℕ) → First (again key) m (repeat_place key m)
  unfolding repeat_place
  repeat_first m = first_to_lem (again key) m

  -- the first place whose key stands among those before it
  pub repeat_is : (m n : ℕ) → First (again key) m n → repeat_place key m ≡ n
  unfolding repeat_place
  repeat_is m n w = first_is (again key) m n w

  -- the search, a turn at a time
  pub repeat_start : repeat_place key 0 ≡ 0
  unfolding repeat_place first_to
  repeat_start = refl

  pub repeat_next : (i : ℕ) → repeat_place key i ≡ i → seen_key key (key i) i ≡ false → repeat_place key (i + 1) ≡ i + 1
  unfolding repeat_place
  repeat_next i e f = first_pass (again key) i e f

  pub repeat_here : (m i : ℕ) → i < m → repeat_place key i ≡ i → seen_key key (key i) i ≡ true → repeat_place key m ≡ i
  unfolding repeat_place
  repeat_here m i h e f = sym (first_stop (again key) i m e f h)

  pub repeat_le : (m : ℕ) → repeat_place key m ≤ m
  repeat_le m = (repeat_first m).low

  -- the keys of the first n are distinct where each stands not among those before it
  fresh_distinct : (n : ℕ) → ((i : ℕ) → i < n → again key i ≡ false) → (i j : ℕ) → i < n → j < n → key i ≡ key j → Dec (i < j) → Dec (j < i) → i ≡ j
  fresh_distinct n f i j hi hj e (yes l) d = absurd (clash (again key) j (seen_hit key (key j) i j l e) (f j hj))
  fresh_distinct n f i j hi hj e (no l) (yes k) = absurd (clash (again key) i (seen_hit key (key i) j i k (sym e)) (f i hi))
  fresh_distinct n f i j hi hj e (no l) (no k) = omega (arith, l, k)

  pub fresh_all : (n : ℕ) → ((i : ℕ) → i < n → again key i ≡ false) → Distinct key n
  unfolding Distinct
  fresh_all n f i j hi hj e = fresh_distinct n f i j hi hj e (dec_lt i j) (dec_lt j i)

  -- the keys before the place are distinct
  pub repeat_before : (m : ℕ) → Distinct key (repeat_place key m)
  repeat_before m = fresh_all (repeat_place key m) (repeat_first m).before

  -- and the key there is one of them
  pub repeat_among : (m : ℕ) → repeat_place key m < m → Earlier key (key (repeat_place key m)) (repeat_place key m)
  repeat_among m h = seen_earlier key (key (repeat_place key m)) (repeat_place key m) ((repeat_first m).at h)

  -- the place is the end where no two keys are equal, and only there
  pub repeat_distinct : (m : ℕ) → repeat_place key m ≡ m → Distinct key m
  repeat_distinct m e = rw e at (repeat_before m)

  pub distinct_repeat : (m : ℕ) → Distinct key m → repeat_place key m ≡ m
  unfolding Distinct
  distinct_repeat m d =
      repeat_is m m (record {
        low = omega arith;
        before = λ i k. seen_none key (key i) i (λ j l e. let z : j ≡ i = d j i (omega arith) k e in omega arith);
        at = λ k. absurd (omega arith);
      })

-- the place asks for the first m keys alone
pub repeat_agree : (key other : ℕ → ℕ) (m : ℕ) → ((i : ℕ) → i < m → key i ≡ other i) → repeat_place key m ≡ repeat_place other m
unfolding repeat_place
repeat_agree key other m h =
    first_agree (again key) (again other) m (λ i l.
    ap (λ (x : ℕ). seen_key key x i) (h i l) ∙ seen_agree key other (other i) i (λ j k. h j (omega arith)))

-- ---- the row of a key

module _ (key : ℕ → ℕ) (x m : ℕ) where
  row_first : First (λ i. eqb (key i) x) m (row_of key x m)
  unfolding row_of
  row_first = first_to_lem (λ i. eqb (key i) x) m

  pub row_le : row_of key x m ≤ m
  row_le = row_first.low

  pub row_key : row_of key x m < m → key (row_of key x m) ≡ x
  row_key h = eqb-true _ _ (row_first.at h)

  pub row_none : row_of key x m ≡ m → (i : ℕ) → i < m → key i ≡ x → ⊥
  row_none e i h q = eqb-false (key i) x (row_first.before i (omega arith)) q

  pub row_is : (n : ℕ) → n ≤ m → ((i : ℕ) → i < n → key i ≡ x → ⊥) → (n < m → key n ≡ x) → row_of key x m ≡ n
  unfolding row_of
  row_is n l b a =
      first_is (λ i. eqb (key i) x) m n (record { low = l; before = λ i k. ne_eqb _ _ (b i k); at = λ k. eq-eqb _ _ (a k) })

-- the search for it, a turn at a time
module _ (key : ℕ → ℕ) (x : ℕ) where
  pub row_start : row_of key x 0 ≡ 0
  unfolding row_of
  row_start = first_start (λ i. eqb (key i) x)

  pub row_pass : (i : ℕ) → row_of key x i ≡ i → eqb (key i) x ≡ false → row_of key x (i + 1) ≡ i + 1
  unfolding row_of
  row_pass i e f = first_pass (λ i. eqb (key i) x) i e f

  pub row_stop : (i m : ℕ) → row_of key x i ≡ i → eqb (key i) x ≡ true → i < m → i ≡ row_of key x m
  unfolding row_of
  row_stop i m e f l = first_stop (λ i. eqb (key i) x) i m e f l

  pub row_end : (i m : ℕ) → row_of key x i ≡ i → i ≤ m → m ≤ i → m ≡ row_of key x m
  unfolding row_of
  row_end i m e l h = first_end (λ i. eqb (key i) x) i m e l h
