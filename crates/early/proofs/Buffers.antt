-- Early and late beside each other: each lent and come home, and entries that go from one to the other. Assumes nothing.
use Prim.Native.Nat.{ℕ, zero, suc, ◌+◌, ◌*◌, ◌-◌, ◌≤◌, ◌<◌}
use mathlib.Core.Path.{◌≡◌, refl, sym, ap, ap₂, subst, ◌∙◌}
use mathlib.Core.Bool.{Bool, true, false}
use mathlib.Core.List.{List, [], ◌∷◌, ◌++◌, append-nil, append_assoc}
use native.Mathlib.Omega.{arith}
use lib.ListN.{length, take, drop, take-append-drop, length-append, length-drop}
use Rattle.octets.specs.Bytes.{num, unle}
use Rattle.octets.proofs.Laws.{part_front}
use lib.Seq.{take_all, take_at, drop_at, length-take-le}
use Rattle.rules.specs.Choice.{pick, keep}
use Rattle.rules.specs.Entry.{no_entry, entry_of}
use Rattle.rules.specs.Image.{table_at}
use Rattle.rules.specs.declared.Entry.{Entry}
use Rattle.rules.proofs.Tests.{pick_true, pick_false}
use Rattle.rules.proofs.Choice.{length_keep}
use Rattle.entries.specs.Table.{Holds, Table}
use Rattle.entries.proofs.Table.{decoded, is_table}
use Rattle.early.specs.Buffers.{BothHold, early_in, late_in, Both}
use Rattle.early.proofs.Sifting.{keep_none, keep_next, keep_yes}

nothing : (xs : List ℕ) → length xs ≡ 0 → xs ≡ []
nothing [] e = refl
nothing (x ∷ xs) e = absurd (omega arith)

-- the two halves, as they are lent
abbrev pub first_part : ℕ → List ℕ → List ℕ
first_part c t = take (4 + 24 * c - 0) t

abbrev pub last_part : ℕ → List ℕ → List ℕ
last_part c t = take (4 + 24 * c + (4 + 24 * c) - (4 + 24 * c)) (drop (4 + 24 * c) t)

first_long : (c : ℕ) → 4 + 24 * c - 0 ≡ 4 + 24 * c
first_long c = omega arith

last_long : (c : ℕ) → 4 + 24 * c + (4 + 24 * c) - (4 + 24 * c) ≡ 4 + 24 * c
last_long c = omega arith

module _ {c : ℕ} {es ls : List Entry} {t : List ℕ} (h : BothHold c es ls t) where
  pub early_is : early_in c t ≡ es
  early_is = decoded c es _ h.early

  pub late_is : late_in c t ≡ ls
  late_is = decoded c ls _ h.late

  pub is_both : Both c t
  is_both = record { early = is_table c es _ h.early; late = is_table c ls _ h.late; size = h.size }

  pub both_count : num t 0 4 ≡ length es
  unfolding num
  both_count =
      let n : ℕ = 4 + 24 * c in
      let l : length (take n t) ≡ n = length-take-le n t (omega (arith, h.size)) in
      ap (λ (b : List ℕ). num b 0 4) (sym (take-append-drop n t)) ∙ ap unle (part_front (take n t) (drop n t) 0 4 (omega arith)) ∙ h.early.count

  -- ---- lent

  pub early_part : Holds c es (first_part c t)
  early_part = rw (first_long c) h.early

  pub late_part : Holds c ls (last_part c t)
  late_part =
      let z : length (drop (4 + 24 * c) t) ≤ 4 + 24 * c = simp length-drop (omega (arith, h.size)) in
      rw (last_long c, take_all (4 + 24 * c) (drop (4 + 24 * c) t) z) h.late

  -- ---- come home

  pub late_back : (ks : List Entry) (x : List ℕ) → Holds c ks x → BothHold c es ks (take (4 + 24 * c) t ++ (x ++ drop (4 + 24 * c + (4 + 24 * c) - (4 + 24 * c)) (drop (4 + 24 * c) t)))
  late_back ks x k =
      let n : ℕ = 4 + 24 * c in
      let l : length (take n t) ≡ n = length-take-le n t (omega (arith, h.size)) in
      let z : drop n (drop n t) ≡ [] = nothing (drop n (drop n t)) (simp length-drop (omega (arith, h.size))) in
      rw (last_long c, z, append-nil x) (record {
        early = rw (take_at (take n t) x n l) h.early;
        late = rw (drop_at (take n t) x n l) k;
        size = length-append (take n t) x ∙ omega (arith, k.size);
      })

  pub early_back : (ks : List Entry) (x : List ℕ) → Holds c ks x → BothHold c ks ls (x ++ drop (4 + 24 * c - 0) t)
  early_back ks x k =
      let n : ℕ = 4 + 24 * c in
      rw (first_long c) (record {
        early = rw (take_at x (drop n t) n k.size) k;
        late = rw (drop_at x (drop n t) n k.size) h.late;
        size = length-append x (drop n t) ∙ omega (arith, k.size, length-drop n t, h.size);
      })

-- what is asked of the halves as they are lent
module _ {c : ℕ} {t : List ℕ} (h : Both c t) where
  pub first_is : table_at c (first_part c t) 0 ≡ early_in c t
  first_is = decoded c (early_in c t) _ (early_part h)

  pub last_is : table_at c (last_part c t) 0 ≡ late_in c t
  last_is = decoded c (late_in c t) _ (late_part h)

  pub first_asked : Table c (first_part c t)
  first_asked = is_table c _ _ (early_part h)

  pub last_asked : Table c (last_part c t)
  last_asked = is_table c _ _ (late_part h)

-- ---- entries fall from early to late

module _ (p : Entry → Bool) (es : List Entry) where
  -- those of the first i are no more than those of all
  keep_part : (xs : List Entry) (i : ℕ) → length (keep p (take i xs)) ≤ length (keep p xs)
  unfolding keep pick
  keep_part xs zero = omega arith
  keep_part [] (suc i) = omega arith
  keep_part (x ∷ xs) (suc i) = go (p x) (keep_part xs i)
    where
      go : (b : Bool) → length (keep p (take i xs)) ≤ length (keep p xs) → length (pick b (x ∷ keep p (take i xs)) (keep p (take i xs))) ≤ length (pick b (x ∷ keep p xs) (keep p xs))
      go true l = omega arith
      go false l = l

  -- one more of those that fall has room
  fall_room : (ls : List Entry) (c i : ℕ) → i < length es → length ls + length (keep p es) ≤ c → p (entry_of es i) ≡ true → length (ls ++ keep p (take i es)) < c
  fall_room ls c i l r t =
      let k : length (keep p (take (i + 1) es)) ≡ length (keep p (take i es)) + 1 = ap length (keep_yes p no_entry es i l t) ∙ length-append (keep p (take i es)) (entry_of es i ∷ []) in
      rw (length-append ls (keep p (take i es))) (omega (arith, keep_part es (i + 1)))

  pub fall_asked : {c : ℕ} {t : List ℕ} (ls : List Entry) (i : ℕ) → i < length es → BothHold c es (ls ++ keep p (take i es)) t → length ls + length (keep p es) ≤ c
      → Both c t × (i < length (early_in c t)) × (p (entry_of (early_in c t) i) ≡ true → length (late_in c t) < c)
  fall_asked {c} ls i l h r = (is_both h, rw (early_is h) l, rw (early_is h, late_is h) (λ t. fall_room ls c i l r t))

  pub fall_start : {c : ℕ} {ls : List Entry} {t : List ℕ} → BothHold c es ls t → BothHold c es (ls ++ keep p (take 0 es)) t
  fall_start {ls = ls} h = rw (keep_none p es, append-nil ls) h

  pub fall_turn : {c : ℕ} {t t' : List ℕ} (ls : List Entry) (i : ℕ) → i < length es → BothHold c es (ls ++ keep p (take i es)) t
      → BothHold c (early_in c t) (late_in c t ++ pick (p (entry_of (early_in c t) i)) (entry_of (early_in c t) i ∷ []) []) t' → BothHold c es (ls ++ keep p (take (i + 1) es)) t'
  fall_turn ls i l h k = rw (keep_next p no_entry es i l, ← append_assoc ls (keep p (take i es)) _) (rw (early_is h, late_is h) at k)

  pub fall_end : {c : ℕ} {t : List ℕ} (ls : List Entry) (i : ℕ) → length es ≤ i → BothHold c es (ls ++ keep p (take i es)) t → BothHold c es (ls ++ keep p es) t
  fall_end ls i l h = rw (take_all i es l) at h

-- one entry falls or does not
module _ (p : Entry → Bool) {c : ℕ} {t : List ℕ} (h : Both c t) (i : ℕ) (x : Entry) (b : Bool) (e : x ≡ entry_of (table_at c (first_part c t) 0) i) (q : b ≡ p x) where
  fallen : p (entry_of (early_in c t) i) ≡ b
  fallen = ap p (sym (e ∙ ap (λ (es : List Entry). entry_of es i) (first_is h))) ∙ sym q

  pub falls_not : b ≡ false → BothHold c (early_in c t) (late_in c t ++ pick (p (entry_of (early_in c t) i)) (entry_of (early_in c t) i ∷ []) []) t
  falls_not f = rw (pick_false _ (entry_of (early_in c t) i ∷ []) [] (fallen ∙ f), append-nil (late_in c t)) h

  pub falls_asked : b ≡ true → (p (entry_of (early_in c t) i) ≡ true → length (late_in c t) < c) → Table c (last_part c t) × (length (table_at c (last_part c t) 0) < c)
  falls_asked g r = (last_asked h, rw (last_is h) (r (fallen ∙ g)))

  pub falls : (u : List ℕ) → b ≡ true → Holds c (table_at c (last_part c t) 0 ++ (x ∷ [])) u
      → BothHold c (early_in c t) (late_in c t ++ pick (p (entry_of (early_in c t) i)) (entry_of (early_in c t) i ∷ []) [])
      (take (4 + 24 * c) t ++ (u ++ drop (4 + 24 * c + (4 + 24 * c) - (4 + 24 * c)) (drop (4 + 24 * c) t)))
  falls u g k =
      let z : x ≡ entry_of (early_in c t) i = e ∙ ap (λ (es : List Entry). entry_of es i) (first_is h) in
      rw (pick_true _ (entry_of (early_in c t) i ∷ []) [] (fallen ∙ g), ← z) (late_back h _ u (rw (last_is h) at k))

-- what stays of late and what falls from early, counted apart
pub counted : (p q : Entry → Bool) {c : ℕ} {t : List ℕ} → Both c t → (x y : ℕ) → x ≡ length (keep p (table_at c (last_part c t) 0)) → y ≡ length (keep q (table_at c (first_part c t) 0))
    → x + y ≡ length (keep p (late_in c t)) + length (keep q (early_in c t))
counted p q h x y u v = ap₂ ◌+◌ (u ∙ ap (λ (es : List Entry). length (keep p es)) (last_is h)) (v ∙ ap (λ (es : List Entry). length (keep q es)) (first_is h))

pub counted_fits : (p q : Entry → Bool) {c : ℕ} {t : List ℕ} → Both c t → (x y : ℕ) → x ≡ length (keep p (table_at c (last_part c t) 0)) → y ≡ length (keep q (table_at c (first_part c t) 0)) → x + y ≤ 8192
counted_fits p q {c} {t} h x y u v =
    omega (arith, counted p q h x y u v, length_keep p (late_in c t), length_keep q (early_in c t), h.late.room, h.early.room, h.early.small)

-- ---- late is left, early falls to it, and early is left

-- the slice as the second half comes home
abbrev home_last : ℕ → List ℕ → List ℕ → List ℕ
home_last c t x = take (4 + 24 * c) t ++ (x ++ drop (4 + 24 * c + (4 + 24 * c) - (4 + 24 * c)) (drop (4 + 24 * c) t))

module _ (q p : Entry → Bool) {c : ℕ} {t : List ℕ} (h : Both c t) (x : List ℕ) (k : Holds c (keep q (table_at c (last_part c t) 0)) x) where
  stayed : BothHold c (early_in c t) (keep q (late_in c t)) (home_last c t x)
  stayed = late_back h (keep q (late_in c t)) x (rw (last_is h) at k)

  pub then_fall : length (keep q (late_in c t)) + length (keep p (early_in c t)) ≤ c → Both c (home_last c t x) × (length (late_in c (home_last c t x)) + length (keep p (early_in c (home_last c t x))) ≤ c)
  then_fall l = (is_both stayed, rw (early_is stayed, late_is stayed) l)

  module _ (u : List ℕ) (f : BothHold c (early_in c (home_last c t x)) (late_in c (home_last c t x) ++ keep p (early_in c (home_last c t x))) u) where
    fell : BothHold c (early_in c t) (keep q (late_in c t) ++ keep p (early_in c t)) u
    fell = rw (early_is stayed, late_is stayed) at f

    pub then_leave : Table c (first_part c u)
    then_leave = is_table c _ _ (early_part fell)

    pub settled : (r : Entry → Bool) (y : List ℕ) → Holds c (keep r (table_at c (first_part c u) 0)) y → BothHold c (keep r (early_in c t)) (keep q (late_in c t) ++ keep p (early_in c t)) (y ++ drop (4 + 24 * c - 0) u)
    settled r y g = early_back fell (keep r (early_in c t)) y (subst (λ (es : List Entry). Holds c (keep r es) y) (decoded c _ _ (early_part fell)) g)
