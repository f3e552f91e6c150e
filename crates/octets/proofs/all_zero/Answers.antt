use Prim.Native.Nat.{◌%◌}
use mathlib.Core.Bool.{true, false}
use mathlib.Core.Path.{refl, sym, ◌∙◌}
use native.Mathlib.Omega.{arith}
use Rattle.octets.proofs.Turns.{zeros_both}
use Rattle.octets.proofs.all_zero.Goals as goal

pub returns-then-not-zero_blocks : goal.returns-then-not-zero_blocks
returns-then-not-zero_blocks c = zeros_both _ _ _ (c.args.n % 64) _ false _ (sym c.if-not-zero_blocks.true ∙ c.zero_blocks.ensures) refl (omega arith)

pub returns-then-not-zero_words : goal.returns-then-not-zero_words
returns-then-not-zero_words c = zeros_both _ _ _ (c.args.n % 64) _ true false (sym c.if-not-zero_blocks.false ∙ c.zero_blocks.ensures) (zeros_both _ _ _ (c.args.n % 64 % 8) _ false _ (sym c.if-not-zero_words.true ∙ c.zero_words.ensures) refl (omega arith)) (omega arith)

pub returns : goal.returns
returns c = zeros_both _ _ _ (c.args.n % 64) _ true _ (sym c.if-not-zero_blocks.false ∙ c.zero_blocks.ensures) (zeros_both _ _ _ _ (c.args.n % 64) true _ (sym c.if-not-zero_words.false ∙ c.zero_words.ensures) c.zero_bytes.ensures (omega arith)) (omega arith)
