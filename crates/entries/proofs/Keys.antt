-- A transaction as one number, its key: equal keys are equal transactions. Assumes nothing.
use Prim.Native.Nat.{ℕ, zero, suc, ◌+◌, ◌*◌, ◌≤◌, ◌<◌}
use mathlib.Core.Path.{◌≡◌, refl, ap, ◌∙◌}
use mathlib.Core.Bool.{Bool, true, false, ◌&&◌}
use mathlib.Core.List.{List}
use native.Mathlib.Omega.{arith}
use lib.ListN.{length}
use lib.Dec.{eqb}
use borrow.Author.Tests.{eq-eqb, ne_eqb, eqb-true, eqb-false}
use Rattle.octets.specs.Bytes.{num}
use Rattle.octets.proofs.Laws.{Bytes, num_add, num_lt}
use Rattle.rules.specs.Entry.{same_txn}
use Rattle.rules.specs.Log.{seen_before}
use Rattle.rules.specs.Read.{entry_at}
use Rattle.rules.specs.declared.Entry.{Entry}
use Rattle.rules.proofs.Order.{txn_turns}
use Rattle.repeats.specs.Repeat.{seen_key, row_of}
use Rattle.repeats.proofs.Laws.{first_agree}
use Rattle.entries.specs.First.{find_row}

-- x is the key of e
pub record Keyed (x : ℕ) (e : Entry) : Type 0 where
  pub is : x ≡ e.request + e.coordinator * 4294967296
  pub low : e.request < 4294967296

-- of an entry in bytes, the six bytes of its request and coordinator
pub key_at : (b : List ℕ) (a : ℕ) → num b (a + 16) 6 ≡ (entry_at b a).request + (entry_at b a).coordinator * 4294967296
unfolding entry_at
key_at b a =
    let z : a + 16 + 4 ≡ a + 20 = omega arith in
    num_add b (a + 16) 4 2 ∙ ap (λ (y : ℕ). num b (a + 16) 4 + num b y 2 * 4294967296) z

pub keyed_at : (b : List ℕ) (a at x : ℕ) → Bytes b → a + 24 ≤ length b → at ≡ a + 16 → x ≡ num b at 6 → Keyed x (entry_at b a)
unfolding entry_at
keyed_at b a at x w h p q =
    record {
      is = q ∙ ap (λ (y : ℕ). num b y 6) p ∙ key_at b a;
      low = num_lt b (a + 16) 4 w (omega arith);
    }

module _ (x y : ℕ) (d e : Entry) (p : Keyed x d) (q : Keyed y e) where
  key_same : (s t : Bool) → eqb d.coordinator e.coordinator ≡ s → eqb d.request e.request ≡ t → eqb x y ≡ (s && t)
  key_same true true f g =
      let u : d.coordinator ≡ e.coordinator = eqb-true d.coordinator e.coordinator f in
      let v : d.request ≡ e.request = eqb-true d.request e.request g in
      eq-eqb x y (omega arith)
  key_same true false f g = ne_eqb x y (λ z. eqb-false d.request e.request g (omega arith))
  key_same false t f g = ne_eqb x y (λ z. eqb-false d.coordinator e.coordinator f (omega arith))

  pub key_is : eqb x y ≡ same_txn d e
  key_is = key_same (eqb d.coordinator e.coordinator) (eqb d.request e.request) refl refl

-- an entry's transaction stands among the first i where its key does
pub seen_is : (f : ℕ → Entry) (key : ℕ → ℕ) (x : ℕ) (e : Entry) → Keyed x e → (i : ℕ) → ((j : ℕ) → j < i → Keyed (key j) (f j)) → seen_key key x i ≡ seen_before f e i
unfolding seen_key seen_before
seen_is f key x e k zero h = refl
seen_is f key x e k (suc i) h = rw (seen_is f key x e k i (λ j l. h j (omega arith)), key_is (key i) x (f i) e (h i (omega arith)) k)

-- the row of a key is that of its transaction
pub row_keyed : (f : ℕ → Entry) (key : ℕ → ℕ) (x : ℕ) (e : Entry) (n : ℕ) → Keyed x e → ((i : ℕ) → i < n → Keyed (key i) (f i)) → row_of key x n ≡ find_row f e.request e.coordinator n
unfolding row_of
row_keyed f key x e n k h = first_agree _ _ n (λ i l. key_is (key i) x (f i) e (h i l) k ∙ txn_turns (f i) e)
