-- The commit rule over the heard points' bytes, and the commit point found by halves. Assumes nothing.
use mathlib.Core.Path.{◌≡◌, ◌∙◌, ap, refl, sym}
use mathlib.Core.Bool.{Bool, true, false}
use mathlib.Core.Option.{Option, none, some}
use mathlib.Core.List.{List}
use Prim.Native.Nat.{ℕ, ◌+◌, ◌*◌, ◌-◌, ◌<◌, ◌≤◌, max}
use native.Mathlib.Nat.{zero-add, le_trans}
use native.Mathlib.Numerals.{add-one}
use native.Mathlib.Omega.{arith}
use native.Mathlib.Decide.{dec_lt}
use lib.Dec.{T, eqb, leb, le→leb, leb→le}
use lib.ListN.{get_or}
use borrow.Author.Tests.{leb-true, le-leb, eq-eqb, ne_eqb}
use Rattle.octets.specs.Bytes.{num}
use Rattle.octets.proofs.Codecs.{get_or_items}
use Rattle.rules.specs.Choice.{pick, count, point}
use Rattle.rules.specs.Group.{majority}
use Rattle.rules.specs.Image.{point_at}
use Rattle.rules.specs.Commit.{has_reached, reached, counted, commit_point}
use Rattle.rules.proofs.Choice.{clash, point_most, point_passes, point_above}
use Rattle.rules.proofs.RunCounting.{count_mono}
use Rattle.group.specs.Points.{points, reached_in, held}

-- ---- one replica

module _ (own len : ℕ) (b : List ℕ) (c i : ℕ) where
  pub own_reached : i ≡ own → leb c len ≡ reached_in own len b c i
  unfolding reached_in pick
  own_reached e = rw (eq-eqb i own e)

  pub unheard : (f : ℕ) → (i ≡ own → ⊥) → f ≡ num b (9 * i) 1 → f ≡ 0 → false ≡ reached_in own len b c i
  unfolding reached_in point_at pick
  unheard f o e z = rw (ne_eqb i own o, ← e, z)

  pub heard_reached : (f w : ℕ) → (i ≡ own → ⊥) → f ≡ num b (9 * i) 1 → (f ≡ 0 → ⊥) → w ≡ num b (9 * i + 1) 8 → leb c w ≡ reached_in own len b c i
  unfolding reached_in point_at pick
  heard_reached f w o e z d = rw (ne_eqb i own o, ← e, ne_eqb f 0 z, ← d)

  pub reached_at : (n : ℕ) → i < n → reached own len (points n b) c i ≡ reached_in own len b c i
  unfolding reached_in
  reached_at n l =
      ap (λ (x : Option ℕ). pick (eqb i own) (leb c len) (has_reached c x)) (get_or_items (point_at b) 9 0 n i none l ∙ ap (point_at b) (zero-add (9 * i)))

  pub reached_told : (n : ℕ) (t : Bool) → i < n → t ≡ reached_in own len b c i → reached own len (points n b) c i ≡ t
  reached_told n t l e = reached_at n l ∙ sym e

-- ---- the count

pub count_none : (p : ℕ → Bool) → 0 ≡ count p 0
unfolding count
count_none p = refl

pub count_more : (p : ℕ → Bool) (i sum : ℕ) → p i ≡ true → sum ≡ count p i → sum + 1 ≡ count p (i + 1)
unfolding count pick
count_more p i sum e h = simp (add-one, e, h)

pub count_same : (p : ℕ → Bool) (i sum : ℕ) → p i ≡ false → sum ≡ count p i → sum ≡ count p (i + 1)
unfolding count pick
count_same p i sum e h = simp (add-one, e, h)

-- ---- the search by halves

module _ (n own len : ℕ) (heard : List (Option ℕ)) where
  -- what is reached is reached lower down
  reached_less : (c m i : ℕ) → c ≤ m → T (reached own len heard m i) → T (reached own len heard c i)
  unfolding pick
  reached_less c m i l = go (eqb i own) (get_or heard i none)
    where
      less : (w : ℕ) → T (leb m w) → T (leb c w)
      less w t = le→leb c w (le_trans l (leb→le m w t))

      go : (mine : Bool) (x : Option ℕ) → T (pick mine (leb m len) (has_reached m x)) → T (pick mine (leb c len) (has_reached c x))
      go true x t = less len t
      go false none t = t
      go false (some w) t = less w t

  -- and by as many
  held_less : (c m : ℕ) → c ≤ m → held n own len heard m ≡ true → held n own len heard c ≡ true
  unfolding held
  held_less c m l e =
      le-leb (majority n) (count (reached own len heard c) n)
      (le_trans (leb-true (majority n) (count (reached own len heard m) n) e) (count_mono _ _ (λ i. reached_less c m i l) n))

  -- the greatest that is held
  abbrev top : ℕ
  top = point (held n own len heard) len

  commit_top : (before : ℕ) → commit_point n own len heard before ≡ max before top
  unfolding commit_point counted held
  commit_top before = refl

  top_below : (m : ℕ) → 1 ≤ m → held n own len heard m ≡ false → top < m
  top_below m o f = go (dec_lt top m)
    where
      go : Dec (top < m) → top < m
      go (yes l) = l
      go (no l) = clash _ (held_less m top (omega arith) (point_passes (held n own len heard) len (omega arith))) f

  -- the commit point lies between low and high
  pub record Between (before low high : ℕ) : Type 0 where
    pub kept : before ≤ low
    pub within : high ≤ len
    pub sound : low ≤ commit_point n own len heard before
    pub most : commit_point n own len heard before ≤ max low high

  pub begins : (before : ℕ) → Between before before len
  begins before =
      let e = commit_top before in
      record { kept = omega arith; within = omega arith; sound = omega arith; most = omega (arith, point_most (held n own len heard) len) }

  module _ (before low high : ℕ) (b : Between before low high) where
    pub ends : high ≤ low → low ≡ commit_point n own len heard before
    ends h = omega (arith, b.sound, b.most)

    -- what one halving leaves
    module _ (middle : ℕ) (l : low < middle) (h : middle ≤ high) where
      pub rises : held n own len heard middle ≡ true → Between before middle high
      rises t =
          let e = commit_top before in
          let a = point_above (held n own len heard) len middle (omega (arith, b.within)) t in
          record { kept = omega (arith, b.kept); within = b.within; sound = omega arith; most = omega (arith, b.most) }

      pub falls : held n own len heard middle ≡ false → Between before low (middle - 1)
      falls t =
          let e = commit_top before in
          let a = top_below middle (omega arith) t in
          record { kept = b.kept; within = omega (arith, b.within); sound = b.sound; most = omega (arith, b.kept) }
