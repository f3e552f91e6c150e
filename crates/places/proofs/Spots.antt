-- What the functions on places in a row leave: where a place begins, its flag, and what is written there. Assumes nothing.
use Prim.Native.Nat.{ℕ, zero, suc, ◌+◌, ◌*◌, ◌-◌, ◌≤◌, ◌<◌}
use mathlib.Core.Path.{◌≡◌, refl, ap, ◌∙◌}
use mathlib.Core.Bool.{Bool, true, false, not}
use mathlib.Core.Option.{none, some}
use mathlib.Core.List.{List}
use native.Mathlib.Omega.{arith}
use lib.ListN.{replicate}
use lib.Dec.{eqb}
use Rattle.octets.specs.Bytes.{num, splice}
use Rattle.rules.specs.Choice.{pick, count, is_some}
use Rattle.rules.specs.Image.{state_length, vote_length, reply_length, point_at, vote_at, reply_at, at_replies, at_votes}
use Rattle.rules.specs.declared.Shape.{Shape}
use Rattle.places.specs.Layout.{start_of, places_of, PlaceAt}
use Rattle.places.specs.declared.Places.{Places}
use Rattle.places.proofs.Rows.{within}

-- ---- where a place begins

pub placed : (sh : Shape) (i k n r start size : ℕ) → start ≡ start_of sh i → size ≡ k → start_of sh i + k * n ≤ state_length sh → r < n → PlaceAt sh i k r (start + size * r)
placed sh i k n r start size e f m h =
    let w : k * r + k ≤ k * n = within k r n h in
    rw (e, f) (record { at = refl; within = omega arith })

-- ---- what stands at a place that is known by an equation

pub moved : (b b' x x' : List ℕ) (a a' : ℕ) → b' ≡ splice b a x → a ≡ a' → x ≡ x' → b' ≡ splice b a' x'
moved b b' x x' a a' w e f = rw (w, e, f)

-- a number read there
pub read_at : (b : List ℕ) (a a' j k v : ℕ) → v ≡ num b (a + j) k → a ≡ a' → v ≡ num b (a' + j) k
read_at b a a' j k v w e = w ∙ ap (λ (x : ℕ). num b (x + j) k) e

-- zeros from a up to z
pub zeroed : (b b' : List ℕ) (a z a' n : ℕ) → b' ≡ splice b a (replicate (z - a) 0) → a ≡ a' → z ≡ a' + n → b' ≡ splice b a' (replicate n 0)
zeroed b b' a z a' n w e f =
    let m : z - a ≡ n = omega arith in
    moved b b' _ _ a a' w e (ap (λ (k : ℕ). replicate k 0) m)

-- ---- a flag

flag_is : {A : Type 0} (x : ℕ) (y : A) → not (eqb x 0) ≡ is_some (pick (eqb x 0) none (some y))
unfolding pick
flag_is x y = go (eqb x 0)
  where
    go : (t : Bool) → not t ≡ is_some (pick t none (some y))
    go true = refl
    go false = refl

module _ (b : List ℕ) (a x : ℕ) (f : Bool) (w : f ≡ not (eqb (num b a 1) 0)) (e : a ≡ x) where
  pub point_flag : f ≡ is_some (point_at b x)
  unfolding point_at
  point_flag = rw (w, e) (flag_is (num b x 1) _)

  pub vote_flag : (c : ℕ) → f ≡ is_some (vote_at c b x)
  unfolding vote_at
  vote_flag c = rw (w, e) (flag_is (num b x 1) _)

  pub reply_flag : (c : ℕ) → f ≡ is_some (reply_at c b x)
  unfolding reply_at
  reply_flag c = rw (w, e) (flag_is (num b x 1) _)

-- ---- flags counted

pub count_like : (p q : ℕ → Bool) (n : ℕ) → ((i : ℕ) → i < n → p i ≡ q i) → count p n ≡ count q n
unfolding count
count_like p q zero h = refl
count_like p q (suc n) h = rw (h n (omega arith), count_like p q n (λ i l. h i (omega arith)))

module _ (sh : Shape) (b : List ℕ) (p : Places) (k : ℕ) (e : p ≡ places_of sh) where
  pub votes_counted : k ≡ count (λ i. not (eqb (num b (p.votes + p.vote * i) 1) 0)) sh.n → k ≡ count (λ i. is_some (vote_at sh.c b (start_of sh at_votes + vote_length sh.c * i))) sh.n
  votes_counted w = w ∙ count_like _ _ sh.n (λ i h. vote_flag b (p.votes + p.vote * i) _ _ refl (ap (λ (q : Places). q.votes + q.vote * i) e) sh.c)

  pub replies_counted : k ≡ count (λ i. not (eqb (num b (p.replies + p.reply * i) 1) 0)) sh.s → k ≡ count (λ i. is_some (reply_at sh.c b (start_of sh at_replies + reply_length sh.c * i))) sh.s
  replies_counted w = w ∙ count_like _ _ sh.s (λ i h. reply_flag b (p.replies + p.reply * i) _ _ refl (ap (λ (q : Places). q.replies + q.reply * i) e) sh.c)
