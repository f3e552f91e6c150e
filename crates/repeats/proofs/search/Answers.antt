use mathlib.Core.Path.{◌≡◌, ◌∙◌, ap, sym}
use Prim.Native.Nat.{◌+◌, ◌*◌, ◌/◌, ◌%◌}
use native.Mathlib.Omega.{arith}
use lib.Dec.{eqb}
use Rattle.repeats.specs.Rows.{count_of, key_of}
use Rattle.repeats.proofs.Laws.{row_start, row_pass, row_stop, row_end}
use Rattle.repeats.proofs.search.Goals as goal

pub loop-i-init : goal.loop-i-init
loop-i-init c = row_start (key_of c.args.b.now c.args.sp) c.args.x

pub returns-then-same : goal.returns-then-same
returns-then-same c = let e : c.args.x ≡ c.args.x % 4294967296 + c.args.x / 4294967296 * 4294967296 = omega arith in row_stop (key_of c.args.b.now c.args.sp) c.args.x c.loop-i.i (count_of c.args.sp) c.loop-i.invariant (ap (eqb (key_of c.args.b.now c.args.sp c.loop-i.i)) e ∙ sym c.same.ensures ∙ c.if-same.true) (omega arith)

pub loop-i-preserved : goal.loop-i-preserved
loop-i-preserved c = let e : c.args.x ≡ c.args.x % 4294967296 + c.args.x / 4294967296 * 4294967296 = omega arith in row_pass (key_of c.args.b.now c.args.sp) c.args.x c.loop-i.i c.loop-i.invariant (ap (eqb (key_of c.args.b.now c.args.sp c.loop-i.i)) e ∙ sym c.same.ensures ∙ c.if-same.false)

pub returns : goal.returns
returns c = c.count-m.ensures ∙ row_end (key_of c.args.b.now c.args.sp) c.args.x c.loop-i.i (count_of c.args.sp) c.loop-i.invariant (omega arith) (omega arith)
