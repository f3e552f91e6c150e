use Prim.Native.Nat.{ℕ}
use mathlib.Core.Option.{Option}
use mathlib.Core.List.{List}
use native.Mathlib.Omega.{arith}
use Rattle.rules.specs.State.{noted_to}
use Rattle.notes.proofs.Row.{ask_found, ask_none}
use Rattle.notes.proofs.agreed_from.Goals as goal

pub returns-then-count-i : goal.returns-then-count-i
returns-then-count-i c = ask_none (λ (ts : List (Option ℕ)). noted_to c.args.e.mask ts c.args.s) _ _ _ c.requires.1 _ (omega arith) c.unmasked.ensures

pub returns : goal.returns
returns c = ask_found (λ (ts : List (Option ℕ)). noted_to c.args.e.mask ts c.args.s) _ _ _ c.requires.1 _ (omega arith) c.agreed_at.ensures
