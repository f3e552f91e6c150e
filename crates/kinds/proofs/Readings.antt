-- What a cell of a kind's row says, by the case that a match finds. Assumes nothing.
use Prim.Native.Nat.{ℕ, ◌≤◌}
use mathlib.Core.Path.{◌≡◌, refl, sym, ap, ◌∙◌}
use mathlib.Core.Bool.{true, false}
use lib.Dec.{leb}
use borrow.Author.Tests.{leb-true}
use Rattle.rules.specs.Choice.{every}
use Rattle.rules.specs.Kind.{Kind, kinds, row_of, numbers_in, with_one, with_log, from_outside, to_outside}
use Rattle.rules.proofs.Tests.{each}
use Rattle.rules.proofs.EachKind.{by_row, NoneOf, none_known, no_row}
use Rattle.rules.specs.declared.Body.{Body}
use Rattle.rules.specs.declared.Body.TheVariants.{NoBody, OneEntry, ALog}
use Rattle.rules.specs.declared.Sender.{Sender}
use Rattle.rules.specs.declared.Sender.TheVariants.{Outsider, OwnLeader, OwnReplica, OtherLeader, AnyReplica}
use Rattle.rules.specs.declared.Receiver.{Receiver}
use Rattle.rules.specs.declared.Receiver.TheVariants.{ALeader, AFollower, Anyone, Outsiders}
use Rattle.rules.specs.declared.Views.TheVariants.{BothEqual}
use Rattle.kinds.specs.declared.Row.{Row}
use Rattle.kinds.specs.Rows.{row_as}

module _ (k : ℕ) where
  pub from_outsider : (s : Sender) → s ≡ (row_of k).sender → s ≡ Outsider → true ≡ from_outside k
  from_outsider s e d = rw (sym e ∙ d)

  pub from_other : (s : Sender) → s ≡ (row_of k).sender → (s ≡ Outsider → ⊥) → false ≡ from_outside k
  from_other Outsider e o = absurd (o refl)
  from_other OwnLeader e o = rw (sym e)
  from_other OwnReplica e o = rw (sym e)
  from_other OtherLeader e o = rw (sym e)
  from_other AnyReplica e o = rw (sym e)

  pub to_outsiders : (r : Receiver) → r ≡ (row_of k).receiver → r ≡ Outsiders → true ≡ to_outside k
  to_outsiders r e d = rw (sym e ∙ d)

  pub to_other : (r : Receiver) → r ≡ (row_of k).receiver → (r ≡ Outsiders → ⊥) → false ≡ to_outside k
  to_other ALeader e o = rw (sym e)
  to_other AFollower e o = rw (sym e)
  to_other Anyone e o = rw (sym e)
  to_other Outsiders e o = absurd (o refl)

  pub has_one : (b : Body) → b ≡ (row_of k).body → b ≡ OneEntry → true ≡ with_one k
  has_one b e d = rw (sym e ∙ d)

  pub not_one : (b : Body) → b ≡ (row_of k).body → (b ≡ OneEntry → ⊥) → false ≡ with_one k
  not_one NoBody e o = rw (sym e)
  not_one OneEntry e o = absurd (o refl)
  not_one ALog e o = rw (sym e)

  pub has_log : (b : Body) → b ≡ (row_of k).body → b ≡ ALog → true ≡ with_log k
  has_log b e d = rw (sym e ∙ d)

  pub not_log : (b : Body) → b ≡ (row_of k).body → (b ≡ ALog → ⊥) → false ≡ with_log k
  not_log NoBody e o = rw (sym e)
  not_log OneEntry e o = rw (sym e)
  not_log ALog e o = absurd (o refl)

pub few_numbers : (k : ℕ) → numbers_in k ≤ 3
unfolding every
few_numbers k = leb-true (numbers_in k) 3 (by_row (λ (r : Kind). leb r.numbers 3 ≡ true) (each (λ (r : Kind). leb r.numbers 3) kinds refl) refl k)

-- ---- the row of a kind in the code, and what stands there for a number that is none

pub row_is : {r x : Row} {k n : ℕ} → r ≡ x → k ≡ n → x ≡ row_as n → r ≡ row_as k
row_is e q f = e ∙ f ∙ sym (ap row_as q)

pub no_row_is : {k : ℕ} → NoneOf k → ◌≡◌ {A = Row} (record { known = false; numbers = 0; body = NoBody; bare = false; sender = AnyReplica; receiver = Anyone; views = BothEqual; statuses = 2; only_if_equal = false }) (row_as k)
no_row_is {k} h = rw (none_known h, no_row k (none_known h))
