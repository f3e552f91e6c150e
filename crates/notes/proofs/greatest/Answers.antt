use Prim.Native.Nat.{ℕ}
use mathlib.Core.Option.{Option}
use mathlib.Core.List.{List}
use native.Mathlib.Omega.{arith}
use Rattle.rules.specs.State.{greatest_to}
use Rattle.notes.proofs.Points.{greatest_of_none}
use Rattle.notes.proofs.Row.{ask_found, ask_none}
use Rattle.notes.proofs.greatest.Goals as goal

pub returns-then-count-i : goal.returns-then-count-i
returns-then-count-i c = ask_none (λ (ts : List (Option ℕ)). greatest_to c.args.e.mask ts c.args.s) _ _ _ c.find-i.ensures _ (omega arith) (greatest_of_none _ _)

pub returns : goal.returns
returns c = ask_found (λ (ts : List (Option ℕ)). greatest_to c.args.e.mask ts c.args.s) _ _ _ c.find-i.ensures _ (omega arith) c.greatest_at.ensures
