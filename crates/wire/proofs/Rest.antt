-- Of a match that has an arm for what is malformed: in the arm for the others the offset is 0, and where wrong sizes have an arm too, so is the answer. Assumes nothing.
use Prim.Native.Nat.{ℕ, zero, suc, ◌+◌, ◌<◌}
use mathlib.Core.Path.{◌≡◌, sym, subst}
use mathlib.Core.Bool.{not}
use mathlib.Core.List.{List, [], ◌∷◌}
use native.Mathlib.Omega.{arith}
use lib.Dec.{T}
use types.Run.{OneOf, miss}
use mir.Val.{has_key}
use denote.Enum.Declared as declared
use Rattle.rules.specs.Wire.{answer_of, offset_in}
use Rattle.rules.specs.declared.Message.{Message}
use Rattle.rules.specs.contracts.Message.{the_type}
use Rattle.rules.proofs.Case.{each_case}

-- n places from k on
abbrev pub upwards : ℕ → ℕ → List ℕ
upwards k zero = []
upwards k (suc n) = k ∷ upwards (k + 1) n

past_two : (t : ℕ) → (t ≡ 0 → ⊥) → (t ≡ 1 → ⊥) → 1 < t
past_two t a b = omega arith

module _ (x : Message) (ks : List ℕ) (o : OneOf ks (declared.tag_of the_type x)) (no_arm : T (not (has_key ks 1))) where
  none_at : (n : ℕ) → T (not (has_key ks n)) → declared.tag_of the_type x ≡ n → ⊥
  none_at n t e = miss ks n t (subst (OneOf ks) e o)

  pub no_offset : 0 ≡ offset_in x
  no_offset = sym ((each_case x).offset (none_at 1 no_arm))

  pub no_answer : T (not (has_key ks 0)) → 0 ≡ answer_of x
  no_answer t = sym ((each_case x).answer (past_two _ (none_at 0 t) (none_at 1 no_arm)))
