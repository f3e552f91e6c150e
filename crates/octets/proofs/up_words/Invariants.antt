use Prim.Native.Nat.{◌+◌, ◌-◌, ◌*◌}
use mathlib.Core.Path.{◌≡◌}
use Rattle.octets.specs.Bytes.{part, splice}
use Rattle.octets.proofs.up_words.Given as goal

abbrev pub invariant-loop-word : goal.invariant-loop-word
invariant-loop-word l = l.s ≡ splice l.initial.s (l.to + 8 * l.word) (part l.initial.s (l.from + 8 * l.word) (l.n - 8 * l.word))
