use Rattle.std.proofs.Common.{arith}
use Rattle.repeats.specs.Rows.{count_of, key_of}
use Rattle.hashed.proofs.Table.{Free, free_first, free_further, only_none, only_more, holds_more, laid_again, laid_all}
use Rattle.hashed.proofs.lay.Goals as goal
use Rattle.hashed.proofs.lay.Goals.{then-row-m+in_ok-p+else-row-m-2+else-i-passed, else-row-m}

pub loop-i-init : goal.loop-i-init
loop-i-init c = record {
  passed = omega arith;
  held = c.requires.5;
  only = λ e. only_none (count_of c.args.sp) c.args.table.now c.args.from (omega arith) e;
}

pub returns-then-row-m-2 : goal.returns-then-row-m-2
returns-then-row-m-2 c = (omega arith, laid_again (key_of c.args.b.now c.args.sp) (count_of c.args.sp) c.args.table.now c.loop-i.table c.loop-i.i c.key-x.result c.in_ok-p.p c.row-then-row-m.result (omega arith) c.key-x.ensures.0 c.in_ok-p.ensures.0 c.in_ok-p.ensures.2 c.row-then-row-m.ensures.0 (omega arith) c.loop-i.invariant.held c.loop-i.invariant.only)

pub loop-i-preserved : goal.loop-i-preserved
loop-i-preserved c =
    let f : Free (key_of c.args.b.now c.args.sp) (count_of c.args.sp) c.loop-i.table c.key-x.result c.if-row-m.p = elim c.if-row-m.branch [
      | then-row-m+in_ok-p+else-row-m-2+else-i-passed w ↦ free_further (key_of c.args.b.now c.args.sp) (count_of c.args.sp) c.loop-i.table c.key-x.result w.in_ok-p.p w.row-then-row-m.result c.if-row-m.p w.in_ok-p.ensures.0 w.in_ok-p.ensures.2 w.row-then-row-m.ensures.0 (omega (arith, w.if-row-m-2.false)) w.p-is
      | else-row-m w ↦ free_first (key_of c.args.b.now c.args.sp) (count_of c.args.sp) c.loop-i.table c.key-x.result c.slot-start.result c.row.result c.if-row-m.p c.slot-start.ensures.0 (omega (arith, c.slot-start.ensures.1)) c.row.ensures.0 (omega (arith, w.if-row-m.false)) w.p-is
    ] in
    record {
      passed = elim c.if-row-m.branch [ then-row-m+in_ok-p+else-row-m-2+else-i-passed w ↦ omega arith | else-row-m w ↦ omega arith ];
      held = holds_more (key_of c.args.b.now c.args.sp) (count_of c.args.sp) c.loop-i.table c.loop-i.i c.key-x.result c.if-row-m.p (omega arith) c.key-x.ensures.0 f.ends f.inside f.free c.loop-i.invariant.held;
      only = λ e. only_more (count_of c.args.sp) c.loop-i.table c.loop-i.i c.if-row-m.p f.inside (c.loop-i.invariant.only e);
    }

pub returns : goal.returns
returns c = (omega arith, laid_all (key_of c.args.b.now c.args.sp) (count_of c.args.sp) c.args.table.now _ _ c.loop-i.i c.count-m.ensures (omega arith) c.loop-i.invariant.held)
