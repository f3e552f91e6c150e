use Prim.Native.Nat.{◌-◌}
use mathlib.Core.Bool.{true, false}
use mathlib.Core.Path.{refl, sym, ◌∙◌}
use native.Mathlib.Omega.{arith}
use Rattle.octets.proofs.Turns.{zeros_none, zeros_begun, zeros_both, zeros_joint, zeros_on, zeros_off, zeros_done}
use Rattle.octets.proofs.zero_blocks.Goals as goal
use Rattle.octets.proofs.zero_blocks.Goals.{then-odd-gt0+else-not-zero_block, else-odd-gt0}

pub returns-then-not-zero_block : goal.returns-then-not-zero_block
returns-then-not-zero_block c = zeros_both _ _ 64 (c.args.n - 64) _ false _ (sym c.if-not-zero_block.true ∙ c.zero_block.ensures) refl (omega arith)

pub loop-i-init : goal.loop-i-init
loop-i-init c = (
  omega arith,
  omega arith,
  elim c.if-odd-gt0.branch [
    | then-odd-gt0+else-not-zero_block w ↦ zeros_begun c.args.s.now c.args.at _ 64 _ w.zero_block.ensures w.if-not-zero_block.false (omega arith)
    | else-odd-gt0 w ↦ zeros_begun c.args.s.now c.args.at _ 0 true (sym (zeros_none c.args.s.now c.args.at)) refl (omega arith)
  ],
)

pub returns-then-not-first-second : goal.returns-then-not-first-second
returns-then-not-first-second c = zeros_off _ _ _ 128 _ _ c.loop-i.invariant.2 (zeros_joint _ _ _ 64 64 128 _ _ c.zero_block-first.ensures c.zero_block-second.ensures refl refl) c.if-not-first-second.true (omega arith)

pub loop-i-preserved : goal.loop-i-preserved
loop-i-preserved c = (omega arith, omega arith, zeros_on _ _ _ 128 _ c.loop-i.invariant.2 (zeros_joint _ _ _ 64 64 128 _ _ c.zero_block-first.ensures c.zero_block-second.ensures refl refl) c.if-not-first-second.false)

pub returns : goal.returns
returns c = search zeros_done
