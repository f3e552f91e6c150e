-- A table anywhere in bytes, read by its count as far as there is room: what the tests of its entries say. Assumes nothing.
use Prim.Native.Nat.{ℕ, suc, ◌+◌, ◌-◌, ◌*◌, ◌≤◌, ◌<◌, min}
use mathlib.Core.Path.{◌≡◌, refl, sym, ap, ap₂, ◌∙◌}
use mathlib.Core.Bool.{Bool, true, false, ◌&&◌}
use mathlib.Core.List.{List}
use native.Mathlib.Numerals.{add-one}
use native.Mathlib.Omega.{arith}
use lib.ListN.{length, get_or}
use lib.Dec.{eqb}
use Rattle.octets.specs.Bytes.{num, items}
use Rattle.octets.proofs.Codecs.{length_items, get_or_items}
use Rattle.rules.specs.Choice.{pick, every, below}
use Rattle.rules.specs.Entry.{no_entry, entry_of, last_before}
use Rattle.rules.specs.Log.{last_of}
use Rattle.rules.specs.Log.{good_to, good_log, distinct}
use Rattle.rules.specs.Read.{entry_at}
use Rattle.rules.specs.Image.{table_at}
use Rattle.rules.specs.declared.Entry.{Entry}
use Rattle.rules.proofs.Choice.{every_more}
use Rattle.repeats.specs.Repeat.{first_to}
use Rattle.notes.proofs.Points.{fold_stop}
use Rattle.logs.specs.Place.{row_at, fits, fit_from, unfit_at}
use Rattle.logs.proofs.Tables.{good_items}
use Rattle.logs.proofs.Apart.{good_two}

-- ---- one turn more

module _ {A : Type 0} (p : A → Bool) where
  pub every_turn : (f : ℕ → A) (k o i : ℕ) → every p (items f k o (i + 1)) ≡ (every p (items f k o i) && p (f (o + k * i)))
  unfolding items
  every_turn f k o i = rw (add-one i) (every_more p (items f k o i) (f (o + k * i)))

pub below_turn : (p : ℕ → Bool) (i : ℕ) → every p (below (i + 1)) ≡ (every p (below i) && p i)
unfolding below
below_turn p i = rw (add-one i) (every_more p (below i) i)

-- a loop that asks of each in turn
module _ {A : Type 0} (p : A → Bool) (f : ℕ → A) (k o : ℕ) where
  pub row_none : true ≡ every p (items f k o 0)
  unfolding items every
  row_none = refl

  pub row_next : (i : ℕ) (fine t : Bool) → fine ≡ every p (items f k o i) → t ≡ p (f (o + k * i)) → (fine && t) ≡ every p (items f k o (i + 1))
  row_next i fine t e h = ap₂ ◌&&◌ e h ∙ sym (every_turn p f k o i)

  pub row_end : (i n : ℕ) (fine : Bool) → fine ≡ every p (items f k o i) → i ≤ n → n ≤ i → fine ≡ every p (items f k o n)
  row_end i n fine e l h = let q : i ≡ n = omega arith in rw q at e

-- a loop that asks of each in turn, up to the first of which it does not hold
module _ (p : ℕ → Bool) where
  pub below_start : every p (below 0) ≡ true
  unfolding below every
  below_start = refl

  pub below_none : true ≡ every p (below 0)
  below_none = sym below_start

  pub below_next : (i : ℕ) (fine t : Bool) → fine ≡ every p (below i) → t ≡ p i → (fine && t) ≡ every p (below (i + 1))
  below_next i fine t e h = ap₂ ◌&&◌ e h ∙ sym (below_turn p i)

  pub below_stop : (i n : ℕ) → i < n → p i ≡ false → false ≡ every p (below n)
  below_stop i n l h = fold_stop (λ m. every p (below m)) p n (λ m d. below_turn p m) i l h

  pub below_end : (i n : ℕ) (fine : Bool) → fine ≡ every p (below i) → i ≤ n → n ≤ i → fine ≡ every p (below n)
  below_end i n fine e l h = let q : i ≡ n = omega arith in rw q at e

-- ---- a table

module _ (c : ℕ) (b : List ℕ) (at n : ℕ) (q : n ≡ min (num b at 4) c) where
  pub table_is : items (entry_at b) 24 (at + 4) n ≡ table_at c b at
  unfolding table_at
  table_is = ap (items (entry_at b) 24 (at + 4)) q

  pub count_is : n ≡ length (table_at c b at)
  count_is = sym (length_items (entry_at b) 24 (at + 4) n) ∙ ap length table_is

  pub good_is : (s k r : ℕ) → r ≡ good_to s k (row_at b (at + 4)) n → eqb r n ≡ good_log s k (table_at c b at)
  good_is s k r e = ap (λ (x : ℕ). eqb x n) e ∙ sym (good_items s k b (at + 4) n) ∙ ap (good_log s k) table_is

  -- each fits, and no transaction stands twice
  pub rows_are : (s k : ℕ) (r : Bool) → ((i : ℕ) → get_or b i 0 < 256) → at + 4 + 24 * n ≤ length b → r ≡ eqb (first_to (unfit_at s k k (row_at b (at + 4))) n) n → (r && distinct (table_at c b at)) ≡ good_log s k (table_at c b at)
  rows_are s k r known h e = ap₂ (λ (x : Bool) (y : List Entry). x && distinct y) e (sym table_is) ∙ sym (good_two b (at + 4) n known h s k) ∙ ap (good_log s k) table_is

  pub each_is : (p : Entry → Bool) (r : Bool) → r ≡ every p (items (entry_at b) 24 (at + 4) n) → r ≡ every p (table_at c b at)
  each_is p r e = e ∙ ap (every p) table_is

  -- each fits after an entry and, where `ordered`, after the one before it
  pub in_order : (s k : ℕ) (last : Entry) (ordered r : Bool) → ordered ≡ true → r ≡ fit_from s k last (items (entry_at b) 24 (at + 4) n)
      → r ≡ pick ordered (fit_from s k last (table_at c b at)) (every (fits s k k last) (table_at c b at))
  unfolding pick
  in_order s k last ordered r o e = rw o (e ∙ ap (fit_from s k last) table_is)

  pub in_any_order : (s k : ℕ) (last : Entry) (ordered r : Bool) → ordered ≡ false → r ≡ every (fits s k k last) (items (entry_at b) 24 (at + 4) n)
      → r ≡ pick ordered (fit_from s k last (table_at c b at)) (every (fits s k k last) (table_at c b at))
  unfolding pick
  in_any_order s k last ordered r o e = rw o (e ∙ ap (every (fits s k k last)) table_is)

  pub last_none : n ≡ 0 → (r : Entry) → r ≡ no_entry → r ≡ last_of (table_at c b at)
  unfolding last_before
  last_none z r p =
      let e : 0 ≡ length (table_at c b at) = sym z ∙ count_is in
      p ∙ ap (last_before (entry_of (table_at c b at))) e

  pub last_is : (n ≡ 0 → ⊥) → (r : Entry) → r ≡ entry_at b (at + 4 + 24 * (n - 1)) → r ≡ last_of (table_at c b at)
  unfolding last_before
  last_is z r p =
      let e : suc (n - 1) ≡ length (table_at c b at) = (let s : suc (n - 1) ≡ n = omega arith in s ∙ count_is) in
      p
      ∙ sym (get_or_items (entry_at b) 24 (at + 4) n (n - 1) no_entry (omega arith))
      ∙ ap (λ (xs : List Entry). entry_of xs (n - 1)) table_is
      ∙ ap (last_before (entry_of (table_at c b at))) e
