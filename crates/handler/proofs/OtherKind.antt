-- Of a message that is not of the case that a handler takes: its number is not the handler's kind. Assumes nothing.
use Prim.Native.Nat.{ℕ}
use mathlib.Core.Path.{◌≡◌, sym, ap, ◌∙◌}
use mathlib.Core.Bool.{true, false}
use lib.Dec.{eqb}
use borrow.Author.Tests.{ne_eqb}
use Rattle.rules.specs.Wire.{tag_of, header_in, numbers_of, case_at}
use Rattle.rules.specs.Kind.{known}
use Rattle.rules.specs.declared.Message.{Message}
use Rattle.rules.proofs.Case.{each_case}

pub other_case : (k : ℕ) (m : Message) → known k ≡ true → (m ≡ case_at k (header_in m) (numbers_of m) → ⊥) → eqb (tag_of m) k ≡ false
other_case k m y n = ne_eqb (tag_of m) k (λ e. n (sym (ap (λ (j : ℕ). case_at j (header_in m) (numbers_of m)) (sym e) ∙ (each_case m).from (ap known e ∙ y))))
