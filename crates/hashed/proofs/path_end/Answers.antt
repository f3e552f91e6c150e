use Rattle.std.proofs.Common.{◌+◌, ◌-◌, ◌∙◌, sym, arith}
use Rattle.repeats.specs.Rows.{count_of, key_of}
use Rattle.hashed.proofs.Table.{stop_none, path_starts, path_free, path_row, path_on}
use Rattle.hashed.proofs.path_end.Goals as goal
use Rattle.hashed.proofs.path_end.Goals.{then-m-e-via-then-m-e, then-m-e-via-else-m-e+then-key-x}

pub loop-p-init : goal.loop-p-init
loop-p-init c = path_starts (key_of c.args.b.now c.args.sp) (count_of c.args.sp) c.args.table.now c.args.x c.args.start _ c.requires.1 (omega arith)

pub returns-then-m-e : goal.returns-then-m-e
returns-then-m-e c = (
  elim c.then-m-e.branch [
    | then-m-e-via-then-m-e w ↦ path_free (key_of c.args.b.now c.args.sp) (count_of c.args.sp) c.args.table.now c.args.x c.loop-p.p (c.args.start + 64 - c.loop-p.p) (c.args.start + 63 - c.loop-p.p) c.row-e.result (omega arith) (omega arith) c.row-e.ensures.0 (omega arith) ∙ c.loop-p.invariant
    | then-m-e-via-else-m-e+then-key-x w ↦ path_row (key_of c.args.b.now c.args.sp) (count_of c.args.sp) c.args.table.now c.args.x c.loop-p.p (c.args.start + 64 - c.loop-p.p) (c.args.start + 63 - c.loop-p.p) c.row-e.result (omega arith) (omega arith) c.row-e.ensures.0 (sym w.key.ensures.0 ∙ w.if-key-x.true) ∙ c.loop-p.invariant
  ],
  omega arith,
  omega arith,
)

pub loop-p-preserved : goal.loop-p-preserved
loop-p-preserved c = path_on (key_of c.args.b.now c.args.sp) (count_of c.args.sp) c.args.table.now c.args.x c.loop-p.p (c.args.start + 64 - c.loop-p.p) (c.args.start + 64 - (c.loop-p.p + 1)) c.row-e.result (omega arith) (omega arith) c.row-e.ensures.0 (omega arith) (λ e. c.if-key-x.false (c.key.ensures.0 ∙ e)) ∙ c.loop-p.invariant

pub returns : goal.returns
returns c = sym c.loop-p.invariant ∙ stop_none (key_of c.args.b.now c.args.sp) (count_of c.args.sp) c.args.table.now c.args.x c.loop-p.p (c.args.start + 64 - c.loop-p.p) (omega arith)
