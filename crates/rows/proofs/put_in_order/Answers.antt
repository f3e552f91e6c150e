use Rattle.std.proofs.Common.{◌≡◌, ◌∙◌, ℕ, true, Option, Some, None, eqb, sym, eqb-true, arith}
use Rattle.std.specs.Option.{IfSome, option_eq}
use Rattle.std.proofs.lemmas.Option.{IfSome_then}
use Rattle.repeats.specs.Rows.{count_of, key_of}
use Rattle.repeats.specs.Repeat.{repeat_place}
use Rattle.sorted.specs.Order.{Sorted}
use Prim.Native.Nat.{ℕ}
use mathlib.Core.List.{List}
use Rattle.rows.proofs.Slots.{ordered_now}
use Rattle.rows.proofs.put_in_order.Goals as goal

-- the order is told to have all m rows
all_sorted : (key : ℕ → ℕ) (m n : ℕ) (t : List ℕ) (r : Option ℕ) → n ≡ m → true ≡ option_eq eqb r (Some n) → IfSome r (λ p. (p ≡ repeat_place key m) × (p ≡ m → Sorted key m t)) → Sorted key m t
all_sorted key m n t (Some p) e q h = h.1 (eqb-true p n (sym q) ∙ e)
all_sorted key m n t None e q h = let y : ◌≡◌ {A = ℕ} 0 1 = cc in absurd (omega arith)

pub returns-then-eq : goal.returns-then-eq
returns-then-eq c = (
  IfSome_then c.index-place.result c.index-place.ensures (λ p h. h.0),
  ordered_now (key_of c.args.b.now c.args.sp) (count_of c.args.sp) _ (all_sorted (key_of c.args.b.now c.args.sp) (count_of c.args.sp) c.count.result _ c.index-place.result c.count.ensures c.if-eq.ensures c.index-place.ensures),
)
