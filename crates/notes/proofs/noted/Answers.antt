use Prim.Native.Nat.{ℕ}
use mathlib.Core.Option.{Option}
use mathlib.Core.List.{List}
use native.Mathlib.Omega.{arith}
use mathlib.Core.Path.{refl}
use mathlib.Core.Option.{none}
use lib.ListN.{get_or}
use Rattle.notes.proofs.Row.{ask_found, ask_none}
use Rattle.notes.proofs.noted.Goals as goal

pub returns-then-count-i : goal.returns-then-count-i
returns-then-count-i c = ask_none (λ (ts : List (Option ℕ)). get_or ts c.args.j none) _ _ _ c.find-i.ensures _ (omega arith) refl

pub returns : goal.returns
returns c = ask_found (λ (ts : List (Option ℕ)). get_or ts c.args.j none) _ _ _ c.find-i.ensures _ (omega arith) c.stamp_of.ensures
